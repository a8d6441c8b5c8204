use Rattle.std.proofs.Common.{◌≡◌, drop}
use Rattle.schedule.specs.BestPair.{best_end}
use Rattle.planner.specs.Pair.{times_of, IsCounted}
use Rattle.planner.proofs.search.best_end.Given as goal

abbrev pub invariant-loop-window : goal.invariant-loop-window
invariant-loop-window l = record {
  pair : best_end l.windows l.low (drop l.window-index l.windows) (times_of l.best) ≡ best_end l.windows l.low l.windows (times_of l.fn.so_far);
  work : IsCounted l.windows l.best;
}
