use Rattle.std.proofs.Common.{◌∙◌, ap, sym, rules}
use Rattle.std.specs.Option.{unwrap_or}
use Rattle.planner.proofs.TickLists.{FirstMark, first_found}
use Rattle.planner.proofs.ticks.first_tick.Goals as goal

pub returns : goal.returns
returns c =
    let found : FirstMark c.args.ticks.now c.position-first.result = search rules in
    c.unwrap_or.ensures ∙ (ap (unwrap_or c.position-first.result) (sym c.told-ticks) ∙ first_found c.args.ticks.now c.position-first.result found)
