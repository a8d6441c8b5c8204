use Rattle.std.proofs.Common.{◌≡◌, ◌∙◌, true, take, replicate, sym, ap, subst, arith}
use Rattle.std.proofs.lemmas.List.{take_all}
use Rattle.planner.specs.Ticks.{is_free_in}
use Rattle.planner.specs.Blocks.{open_demands, critical_blocks}
use Rattle.planner.specs.Rounds.{blocks_to_come, AreLeft}
use Rattle.planner.proofs.Starting.{first_left, first_blocks}
use Rattle.planner.proofs.rounds.Rounds.new.Goals as goal

-- every demand with work left is taken
all_taken : (c : goal.After-loop-demand) → take c.loop-demand.count c.loop-demand.open ≡ open_demands c.demands.inside.list.now
all_taken c = c.loop-demand.invariant.left ∙ ap open_demands (take_all _ _ c.loop-demand-test.false)

pub invariant_of-result : goal.invariant_of-result
invariant_of-result c =
    (omega (arith, c.loop-demand.invariant.behind, c.demands.invariant.few), subst (AreLeft (is_free_in (replicate 256 true))) (sym (all_taken c)) (first_left c.demands.inside.list.now c.demands.invariant))

pub returns-clause-blocks : goal.returns-clause-blocks
returns-clause-blocks c =
    ap (blocks_to_come (is_free_in (replicate 256 true))) (all_taken c) ∙ first_blocks c.demands.inside.list.now ∙ ap critical_blocks c.demands.view_is
