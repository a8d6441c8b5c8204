use Rattle.std.proofs.Common.{◌≡◌, ◌*◌, ◌-◌, drop}
use Rattle.schedule.specs.Placing.{run, empty}
use Rattle.planner.specs.Plan.{state_of, HasRoom}
use Rattle.planner.proofs.allocation.settings.Given as goal

abbrev pub invariant-loop-demand : goal.invariant-loop-demand
invariant-loop-demand l = record {
  room : HasRoom (65535 * (64 - l.demand-index)) (state_of l.plan);
  rest : run (drop l.demand-index l.demand-items) (state_of l.plan) ≡ run l.demand-items empty;
}
