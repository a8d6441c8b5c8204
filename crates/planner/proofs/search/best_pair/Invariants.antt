use Rattle.std.proofs.Common.{◌≡◌, drop}
use Rattle.schedule.specs.BestPair.{best_start}
use Rattle.planner.specs.Pair.{times_of, IsCounted}
use Rattle.planner.proofs.search.best_pair.Given as goal

abbrev pub invariant-loop-window : goal.invariant-loop-window
invariant-loop-window l = record {
  pair : best_start l.windows (drop l.window-index l.windows) (times_of l.best) ≡ best_start l.windows l.windows (times_of l.initial.best);
  work : IsCounted l.windows l.best;
}
