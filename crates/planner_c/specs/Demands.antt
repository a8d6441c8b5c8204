-- The demands that C passes, as the planner's.
use Rattle.std.specs.Prelude.{List, map}
use Rattle.schedule.specs.Demands.{Demand}
use Rattle.planner_c.specs.declared.PlannerDemand.{PlannerDemand}

-- a demand of C as the planner's: the same window, and the same work left
abbrev pub as_demand : PlannerDemand → Demand
as_demand d = record { from = d.from; to = d.to; units = d.units }

-- the demands of C as the planner's
abbrev pub as_demands : List PlannerDemand → List Demand
as_demands ds = map as_demand ds
