use Rattle.std.proofs.Common.{◌≡◌, ◌∙◌, Ok, ap, arith, rules}
use Rattle.std.proofs.lemmas.List.{length-take-le}
use Rattle.layout.specs.Writing.{encode_answer, write_check, encoding_of}
use Rattle.record.specs.Content.{content_of}
use Rattle.layout.proofs.WrittenReads.{write_accepts, write_fills, write_reads}
use Rattle.record.proofs.writing.write.Goals as goal

pub copy_from_slice-requires : goal.copy_from_slice-requires
copy_from_slice-requires c = omega (arith, length-take-le 24 c.args.out.now c.if-out-lt-RECORD_LEN.false, c.to_record-bytes.type_inv)

pub returns : goal.returns
returns c =
    let x = content_of c.args.said.now in
    let s = c.args.out.now in
    let b = c.to_record-bytes.result in
    let made : Ok b ≡ encode_answer (write_check x) (encoding_of x) = ap Ok (search (rules, c.to_record-bytes.ensures.bytes, c.into.ensures)) ∙ c.in_ok-kind.ensures.said in
    let room = c.if-out-lt-RECORD_LEN.false in
    let put = c.copy_from_slice.ensures.after in
    record {
      said = write_accepts x s b made room;
      written = write_fills x s b made room c.copy_from_slice.new.self put;
      back = λ ok. write_reads x s b made room c.copy_from_slice.new.self put c.in_ok-kind.ensures.sized;
    }
