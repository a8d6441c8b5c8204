use Rattle.std.proofs.Common.{◌≡◌, ℕ, ◌<◌, ◌≤◌, ◌&&◌, not}
use Rattle.planner.specs.Ticks.{is_free_in, is_marked_in}
use Rattle.planner.proofs.ticks.take_ticks.Given as goal

abbrev pub invariant-loop-tick : goal.invariant-loop-tick
invariant-loop-tick l = record {
  taken : (t : ℕ) → t < l.tick → is_free_in l.free t ≡ (is_free_in l.fn.free t && not (is_marked_in l.taken t));
  others : (t : ℕ) → l.tick ≤ t → is_free_in l.free t ≡ is_free_in l.fn.free t;
}
