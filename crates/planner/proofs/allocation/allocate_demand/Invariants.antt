use Rattle.std.proofs.Common.{◌≡◌, ◌-◌}
use Rattle.schedule.specs.Placing.{fill}
use Rattle.planner.specs.Plan.{state_of, HasRoom}
use Rattle.planner.specs.Hull.{IsHull}
use Rattle.planner.proofs.allocation.allocate_demand.Given as goal

abbrev pub invariant-loop : goal.invariant-loop
invariant-loop l = record {
  room : HasRoom (65535 - l.counter) (state_of l.plan);
  hull : IsHull (state_of l.plan) l.hull;
  from : l.hull.from ≡ l.demand.from;
  to : l.hull.to ≡ l.demand.to;
  rest : fill l.demand.from l.demand.to (l.demand.units - l.counter) (state_of l.plan) ≡ fill l.demand.from l.demand.to l.demand.units (state_of l.initial.plan);
}
