use Rattle.std.proofs.Common.{◌≡◌, take}
use Rattle.planner_c.specs.Demands.{as_demands}
use Rattle.planner_c.proofs.copy.Given as goal

abbrev pub invariant-loop-index : goal.invariant-loop-index
invariant-loop-index l = take l.index l.list ≡ as_demands (take l.index l.demands)
