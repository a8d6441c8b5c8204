use Rattle.std.proofs.Common.{◌≡◌, ◌≤◌, ◌+◌, ◌∙◌, subst, arith}
use Rattle.queue.specs.declared.ticks.PlannedTick.{PlannedTick}
use Rattle.queue.specs.Slots.{slots_of, elements_of}
use Rattle.schedule.specs.Certificate.{listed}
use Rattle.planner.proofs.Slots.{put_added}
use Rattle.planner.proofs.Queueing.{queued_more, queued_permuted}
use Rattle.planner.specs.Queued.{IsQueued}
use Rattle.schedule.proofs.Deadlines.{low_end_begun}
use Rattle.planner.proofs.hull.Hull.new.Goals as goal

pub loop-tick-preserved : goal.loop-tick-preserved
loop-tick-preserved c =
    let s = listed c.args.plan.now.units in
    let t = c.loop-tick.tick in
    let x : PlannedTick = record { units = s t; tick = t } in
    let q = slots_of c.loop-tick.ticks in
    let added = put_added x q (slots_of c.put.new.self) (omega arith) c.put.ensures.after in
    record {
      size = added.slots ∙ c.loop-tick.invariant.size;
      count = omega (arith, added.count);
      queued = queued_permuted s c.hull_start-start.result (t + 1) _ _ added.holds (queued_more s c.hull_start-start.result t (elements_of q) c.loop-tick.invariant.queued);
    }

pub returns-clause-hull : goal.returns-clause-hull
returns-clause-hull c =
    let s = listed c.args.plan.now.units in
    let begun = low_end_begun (listed c.args.plan.now.slack) c.args.from in
    let le : c.hull_start-start.result ≤ c.args.to = omega (arith, begun, c.hull_start-start.ensures) in
    let done : c.loop-tick.tick ≡ c.args.to = omega (arith, c.loop-tick.auto.tick-end le) in
    record {
      start = c.hull_start-start.ensures;
      queued = subst (λ t. IsQueued s c.hull_start-start.result t (elements_of (slots_of c.loop-tick.ticks))) done c.loop-tick.invariant.queued;
    }
