use Rattle.std.proofs.Common.{length, length-append, ap, arith}
use Rattle.planner.proofs.Starting.{open_blocked, blocks_few}
use Rattle.planner.proofs.blocks.critical_blocks.Goals as goal

pub push-requires : goal.push-requires
push-requires c =
    let few = blocks_few c.args.demands.now c.new-rounds.ensures.plannable in
    omega (arith, ap length c.loop-block.invariant, length-append c.loop-block.blocks c.loop-block.rounds, ap length c.in-Some.ensures, few)

pub returns-clause-critical : goal.returns-clause-critical
returns-clause-critical c = open_blocked c.args.demands.now c.new-rounds.ensures.plannable
