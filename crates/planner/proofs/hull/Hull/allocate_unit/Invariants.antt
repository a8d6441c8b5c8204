use Rattle.queue.specs.Slots.{slots_of, elements_of}
use Rattle.schedule.specs.Certificate.{listed}
use Rattle.planner.specs.Queued.{IsQueued}
use Rattle.planner.proofs.hull.Hull.allocate_unit.Given as goal

abbrev pub invariant-loop-next : goal.invariant-loop-next
invariant-loop-next l = IsQueued (listed l.plan.units) l.fn.self.start l.fn.self.to (elements_of (slots_of l.ticks))

abbrev pub decreases-loop-next : goal.decreases-loop-next
decreases-loop-next l = l.ticks.len
