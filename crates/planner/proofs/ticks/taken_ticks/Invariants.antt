use Rattle.std.proofs.Common.{◌≡◌, ℕ, ◌<◌, ◌&&◌, length}
use Rattle.schedule.specs.Certificate.{listed}
use Rattle.schedule.specs.Rounds.{between}
use Rattle.planner.specs.Pair.{times_of}
use Rattle.planner.specs.Ticks.{is_free_in, is_marked_in}
use Rattle.planner.proofs.ticks.taken_ticks.Given as goal

abbrev pub invariant-loop-tick : goal.invariant-loop-tick
invariant-loop-tick l = record {
  size : length l.taken ≡ 256;
  so_far : (t : ℕ) → t < l.tick → is_marked_in l.taken t ≡ (is_free_in l.free t && between (times_of l.pair) (listed l.times t));
}
