use Rattle.std.proofs.Common.{◌≡◌, ℕ, ◌≤◌, length}
use Rattle.schedule.specs.Certificate.{listed}
use Rattle.schedule.specs.Compressed.{compressed}
use Rattle.planner.specs.Ticks.{is_free_in}
use Rattle.planner.proofs.ticks.compressed_times.Given as goal

abbrev pub invariant-loop-tick : goal.invariant-loop-tick
invariant-loop-tick l = record {
  size : length l.times ≡ 257;
  so_far : (t : ℕ) → t ≤ l.tick → listed l.times t ≡ compressed (is_free_in l.free) t;
}
