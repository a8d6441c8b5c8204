use Rattle.planner.proofs.States.{zeros_empty}
use Rattle.planner.proofs.plan.Plan.new.Goals as goal

pub returns : goal.returns
returns c = zeros_empty
