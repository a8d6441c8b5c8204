use Rattle.std.proofs.Common.{◌+◌, take, ◌∙◌, rules}
use Rattle.planner.proofs.LowEnds.{LastZero, low_end_found}
use Rattle.planner.proofs.plan.Plan.hull_start.Goals as goal

pub returns : goal.returns
returns c =
    let found : LastZero (take (c.args.from + 1) c.args.self.now.slack) c.rposition.result = search rules in
    c.unwrap_or.ensures ∙ low_end_found c.args.self.now.slack c.args.from c.rposition.result (search rules) found
