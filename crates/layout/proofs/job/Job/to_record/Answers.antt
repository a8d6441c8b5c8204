use Rattle.std.proofs.Common.{ℕ, List, take, drop, sym, ap, ◌∙◌}
use Rattle.layout.proofs.BigEndian.{bytes_six}
use Rattle.layout.proofs.Encodings.{filled_bytes_lem}
use Rattle.layout.proofs.job.Job.to_record.Goals as goal

pub returns-clause-bytes : goal.returns-clause-bytes
returns-clause-bytes c =
    let six = λ (l : List ℕ). take 6 (drop 2 l) in
    let j = c.args.self in
    filled_bytes_lem c.args.first j c.args.last.now _ _ _ _ _
    (c.copy_from_slice.ensures.after ∙ c.to_be_bytes.ensures)
    (c.copy_from_slice-2.ensures.after ∙ ap six c.to_be_bytes-2.ensures ∙ sym (bytes_six j.arrival))
    (c.copy_from_slice-3.ensures.after ∙ ap six c.to_be_bytes-3.ensures ∙ sym (bytes_six j.deadline))
    (c.copy_from_slice-4.ensures.after ∙ c.to_be_bytes-4.ensures)
    c.copy_from_slice-5.ensures.after
