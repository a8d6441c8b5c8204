-- The orders of ready jobs and of planned ticks.
use Rattle.std.specs.Prelude.{ℕ, Bool, ◌&&◌, ◌||◌, ◌==◌, nat_lt}
use Rattle.queue.specs.declared.ready.ReadyJob.{ReadyJob}
use Rattle.queue.specs.declared.ticks.PlannedTick.{PlannedTick}

-- before the other by a first number, then by a second one
abbrev pub is_before_by : {X : Type 0} → (X → ℕ) → (X → ℕ) → X → X → Bool
is_before_by a b x y = nat_lt (a x) (a y) || (a x == a y && nat_lt (b x) (b y))

-- of the same rank: both numbers are the same
abbrev pub is_same_by : {X : Type 0} → (X → ℕ) → (X → ℕ) → X → X → Bool
is_same_by a b x y = a x == a y && b x == b y

-- the earlier deadline first, then the lesser ticket
abbrev pub is_ready_before : ReadyJob → ReadyJob → Bool
is_ready_before = is_before_by (λ j. j.deadline) (λ j. j.ticket)

abbrev pub is_ready_same : ReadyJob → ReadyJob → Bool
is_ready_same = is_same_by (λ j. j.deadline) (λ j. j.ticket)

-- the fewer units first, then the earlier tick
abbrev pub is_tick_before : PlannedTick → PlannedTick → Bool
is_tick_before = is_before_by (λ t. t.units) (λ t. t.tick)

abbrev pub is_tick_same : PlannedTick → PlannedTick → Bool
is_tick_same = is_same_by (λ t. t.units) (λ t. t.tick)
