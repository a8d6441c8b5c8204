-- What the planner asks of demands.
use Rattle.std.specs.Prelude.{◌≤◌, List, length}
use Rattle.planner.specs.declared.demands.TheConstants.{MOST_DEMANDS}
use Rattle.schedule.specs.Demands.{Demand, Sound, Sorted}
use Rattle.schedule.specs.InForce.{horizon}

-- demands that settings can be made for: at most 64, with their windows, in order of deadline
pub record IsPlannable (ds : List Demand) : Type 0 where
  pub few : length ds ≤ MOST_DEMANDS
  pub sound : Sound horizon ds
  pub sorted : Sorted ds
