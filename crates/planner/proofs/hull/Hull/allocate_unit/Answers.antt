use Rattle.std.proofs.Common.{ℕ, ◌≤◌, ◌∙◌, sym, ap, subst, refl, rules, arith}
use Rattle.queue.specs.Slots.{slots_of, elements_of}
use Rattle.queue.specs.Elements.{is_tick_before}
use Rattle.schedule.specs.Placing.{place_at}
use Rattle.planner.specs.Queued.{IsQueued}
use Rattle.planner.specs.Plan.{state_of}
use Rattle.planner.proofs.Slots.{take_some, refill_added}
use Rattle.planner.proofs.Hulls.{holds_ticks, same_answer, taken, dropped, in_sight, is_spot, slack_before, queued_after, queued_risen, start_stays}
use Rattle.planner.proofs.hull.Hull.allocate_unit.Goals as goal

pub unwrap-next-requires : goal.unwrap-next-requires
unwrap-next-requires c =
    let q = slots_of c.loop-next.ticks in
    take_some is_tick_before q c.least.ensures.said.0 c.least.result (holds_ticks c.requires.hull q c.loop-next.invariant) c.least.ensures.said.1.leaves

pub loop-next-preserved : goal.loop-next-preserved
loop-next-preserved c =
    let q = slots_of c.loop-next.ticks in
    let same = same_answer q c.least.ensures.said.0 (slots_of c.take.new.self) c.take.result c.least.ensures.said.1.leaves c.unwrap-next.ensures c.take.ensures.said.leaves in
    dropped (taken q c.requires.hull c.loop-next.ticks.fits c.loop-next.invariant c.take.ensures.said.leaves same) (omega (arith, c.from.ensures))

pub allocate-requires : goal.allocate-requires
allocate-requires c =
    let t = taken (slots_of c.loop-next.ticks) c.requires.hull c.loop-next.ticks.fits c.loop-next.invariant c.least.ensures.said.1.leaves c.unwrap-next.ensures in
    record {
      window = search rules;
      tick = omega (arith, in_sight t, c.from-tick.ensures);
      room = c.requires.room;
      slack = λ k xk kf. slack_before t (omega (arith, c.from.ensures)) k (omega (arith, c.from-tick.ensures)) kf;
    }

pub returns-then-tick-self : goal.returns-then-tick-self
returns-then-tick-self c =
    let q = slots_of c.loop-next.ticks in
    let said = c.replace_least.ensures.said in
    let same = same_answer q c.least.ensures.said.0 said.left c.replace_least.result c.least.ensures.said.1.leaves c.unwrap-next.ensures said.taken.leaves in
    let t = taken q c.requires.hull c.loop-next.ticks.fits c.loop-next.invariant said.taken.leaves same in
    let late : c.args.self.now.start ≤ c.unwrap-next.result.tick = omega (arith, c.from.ensures) in
    let with_unit = λ (u : ℕ). place_at c.args.self.now.from u (state_of c.args.plan.now) in
    let allocated = c.allocate.ensures ∙ ap with_unit c.from-tick.ensures in
    let added = refill_added _ said.left (slots_of c.replace_least.new.self) c.replace_least.result _ said.refilled same in
    record {
      allocated = allocated ∙ ap with_unit (is_spot t late);
      hull = record {
        start = c.hull_start-self.ensures;
        queued = subst (λ lo. IsQueued (state_of c.allocate.new.self).settings lo c.args.self.now.to (elements_of (slots_of c.replace_least.new.self))) (sym c.hull_start-self.ensures) (queued_risen t late allocated added);
      };
      window = (refl, refl);
    }

pub returns-else-tick-self : goal.returns-else-tick-self
returns-else-tick-self c =
    let q = slots_of c.loop-next.ticks in
    let said = c.replace_least.ensures.said in
    let same = same_answer q c.least.ensures.said.0 said.left c.replace_least.result c.least.ensures.said.1.leaves c.unwrap-next.ensures said.taken.leaves in
    let t = taken q c.requires.hull c.loop-next.ticks.fits c.loop-next.invariant said.taken.leaves same in
    let late : c.args.self.now.start ≤ c.unwrap-next.result.tick = omega (arith, c.from.ensures) in
    let with_unit = λ (u : ℕ). place_at c.args.self.now.from u (state_of c.args.plan.now) in
    let allocated = c.allocate.ensures ∙ ap with_unit c.from-tick.ensures in
    let added = refill_added _ said.left (slots_of c.replace_least.new.self) c.replace_least.result _ said.refilled same in
    record {
      allocated = allocated ∙ ap with_unit (is_spot t late);
      hull = record { start = start_stays t late allocated added (omega (arith, c.from-tick.ensures)); queued = queued_after t late allocated added };
      window = (refl, refl);
    }
