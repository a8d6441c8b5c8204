use Rattle.std.proofs.Common.{◌≡◌, ◌+◌, ◌∙◌, rules}
use Rattle.std.specs.Option.{option_map_or}
use Rattle.planner.proofs.TickLists.{LastMark, last_found}
use Rattle.planner.proofs.ticks.past_tick.Goals as goal

pub returns : goal.returns
returns c =
    let found : LastMark c.args.ticks.now c.rposition-last.result = search rules in
    let told : c.map_or.result ≡ option_map_or (λ a. a + 1) c.rposition-last.result 0 = search rules in
    told ∙ last_found c.args.ticks.now c.rposition-last.result found
