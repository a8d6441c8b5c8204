use Rattle.std.proofs.Common.{◌≡◌, ◌-◌, length}
use Rattle.queue.specs.Slots.{slots_of, elements_of}
use Rattle.schedule.specs.Certificate.{listed}
use Rattle.planner.specs.Queued.{IsQueued}
use Rattle.planner.proofs.hull.Hull.new.Given as goal

abbrev pub invariant-loop-tick : goal.invariant-loop-tick
invariant-loop-tick l = record {
  size : length l.ticks.slots.now ≡ 256;
  count : l.ticks.len ≡ l.tick - l.start;
  queued : IsQueued (listed l.plan.units) l.start l.tick (elements_of (slots_of l.ticks));
}
