use borrow.Rule.Slice.PartMut.{put_mid}
use Rattle.std.proofs.Common.{ℕ, ◌-◌, ◌<◌, ◌∙◌, length, get_or, replicate, w64, ap, arith}
use Rattle.std.specs.Int.{from_be_bytes}
use Rattle.std.proofs.lemmas.List.{take_all}
use Rattle.layout.specs.BigEndian.{number}
use Rattle.layout.proofs.BigEndian.{number_fits, number_padded}
use Rattle.layout.proofs.job.read_number.Goals as goal

pub returns : goal.returns
returns c =
    let b = c.args.bytes.now in
    let small : (i : ℕ) → get_or b i 0 < 256 = λ i. omega (arith, c.type_inv.bytes i) in
    let value = c.from_be_bytes.ensures ∙ (ap (λ r. from_be_bytes w64 (put_mid (8 - length b) (8 - (8 - length b)) (replicate 8 0) r)) c.copy_from_slice.ensures.after ∙ number_padded b (omega arith)) in
    record {
      value = value;
      fits = omega (arith, value, number_fits b small (length b) (omega arith), ap number (take_all (length b) b (omega arith)));
    }
