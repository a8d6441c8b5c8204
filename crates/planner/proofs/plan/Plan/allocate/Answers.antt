use Rattle.std.proofs.Common.{rules}
use Rattle.planner.proofs.States.{allocated, raised, lowered}
use Rattle.planner.proofs.plan.Plan.allocate.Goals as goal

pub returns-then-from-tick : goal.returns-then-from-tick
returns-then-from-tick c = allocated c.args.self.now c.args.from c.args.tick _ (search rules)
    (raised c.args.from c.args.tick c.args.self.now.slack c.raise.new.slack c.if-from-tick.true (search rules) c.raise.auto.slack c.raise.ensures)

pub returns-else-from-tick : goal.returns-else-from-tick
returns-else-from-tick c = allocated c.args.self.now c.args.from c.args.tick _ (search rules)
    (lowered c.args.from c.args.tick c.args.self.now.slack c.lower.new.slack c.if-from-tick.false (search rules) c.lower.auto.slack c.lower.ensures)
