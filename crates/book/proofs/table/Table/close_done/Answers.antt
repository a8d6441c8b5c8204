use Rattle.std.proofs.Common.{◌≡◌, true, false, length, get_or, arith, rules}
use Rattle.std.proofs.lemmas.Bool.Decides.{nat_tests}
use Rattle.book.proofs.Jobs.{no_job}
use Rattle.book.specs.Ticks.{has_work}
use Rattle.book.proofs.Ticking.{kept, closed}
use Rattle.book.proofs.table.Table.close_done.Goals as goal
use Rattle.book.proofs.table.Table.close_done.Goals.{then-job-gt0, else-job-gt0}

pub loop-index-preserved : goal.loop-index-preserved
loop-index-preserved c =
    let before = c.loop-index.invariant in
    let places = c.loop-index.self-inside.places in
    let old = c.self.inside.places in
    let long : length places ≡ 64 = search rules in
    let long_old : length old ≡ 64 = search rules in
    elim c.if-job-gt0.branch [
      | then-job-gt0 w ↦
          let works : has_work (get_or places c.loop-index.index no_job) ≡ true = grind (arith, nat_tests) in
          let k = kept places old c.loop-index.count c.loop-index.index no_job (omega arith) (omega arith) before.others works before.behind before.kept in
          rw (w.count-is, w.self-inside-is) (record { same = before.same; fits = before.fits; behind = omega arith; kept = k.0; others = k.1 })
      | else-job-gt0 w ↦
          let done : has_work (get_or places c.loop-index.index no_job) ≡ false = grind (arith, nat_tests) in
          let k = closed places old c.loop-index.count c.loop-index.index no_job (omega arith) (omega arith) before.others done before.kept in
          rw (w.count-is, w.self-inside-is) (record { same = before.same; fits = before.fits; behind = omega arith; kept = k.0; others = k.1 })
    ]
