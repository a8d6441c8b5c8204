-- The hull of a window in a plan.
use Rattle.std.specs.Prelude.{◌≡◌}
use Rattle.queue.specs.Slots.{slots_of, elements_of}
use Rattle.schedule.specs.Placing.{State, low_end}
use Rattle.planner.specs.declared.hull.Hull.{Hull}
use Rattle.planner.specs.Queued.{IsQueued}

-- it starts at the low end of its window, and its ticks are queued
pub record IsHull (st : State) (h : Hull) : Type 0 where
  pub start : h.start ≡ low_end st.slack h.from
  pub queued : IsQueued st.settings h.start h.to (elements_of (slots_of h.ticks))
