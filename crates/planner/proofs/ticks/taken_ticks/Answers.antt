use Rattle.std.proofs.Common.{◌≡◌, ℕ, Bool, ◌&&◌, ◌∙◌, length-set, arith}
use Rattle.schedule.specs.Certificate.{listed}
use Rattle.schedule.specs.Rounds.{between}
use Rattle.planner.specs.Pair.{times_of}
use Rattle.planner.specs.Ticks.{is_free_in}
use Rattle.planner.proofs.TickLists.{marks_more, and_free, and_not_free}
use Rattle.planner.proofs.ticks.taken_ticks.Goals as goal
use Rattle.planner.proofs.ticks.taken_ticks.Goals.{then-free, else-free}

pub loop-tick-preserved : goal.loop-tick-preserved
loop-tick-preserved c =
    let free = c.args.free.now in
    let i = c.loop-tick.tick in
    let b = c.if-free.taken in
    let before = c.loop-tick.invariant in
    let lies : ℕ → Bool = λ t. between (times_of c.args.pair.now) (listed c.args.times.now t) in
    let here : b ≡ (is_free_in free i && lies i) = elim c.if-free.branch [
      | then-free w ↦ and_free free i b (lies i) (omega arith) w.if-free.true (w.taken-is ∙ w.has.ensures)
      | else-free w ↦ and_not_free free i b (lies i) (omega arith) w.if-free.false w.taken-is
    ] in
    record {
      size = length-set _ _ _ ∙ before.size;
      so_far = marks_more (λ t. is_free_in free t && lies t) c.loop-tick.taken i b (omega arith) before.so_far here;
    }
