-- The ticks of a hull in a queue.
use Rattle.std.specs.Prelude.{◌≡◌, ℕ, ◌<◌, ◌≤◌, List, count_by, ◌==◌}
use Rattle.std.specs.List.{AllByRecursion}
use Rattle.queue.specs.declared.ticks.PlannedTick.{PlannedTick}

-- how often a tick is queued
abbrev pub copy_count : ℕ → List PlannedTick → ℕ
copy_count t xs = count_by (λ x. t == x.tick) xs

-- what is queued is a tick before `to`, with the units that are allocated to it
abbrev pub IsCurrent : (ℕ → ℕ) → ℕ → PlannedTick → Type 0
IsCurrent s to x = (x.units ≡ s x.tick) × (x.tick < to)

-- each tick from lo up to `to` is queued once; ticks before lo may be queued too
pub record IsQueued (s : ℕ → ℕ) (lo to : ℕ) (xs : List PlannedTick) : Type 0 where
  pub current : AllByRecursion (IsCurrent s to) xs
  pub once : (t : ℕ) → lo ≤ t → t < to → copy_count t xs ≡ 1
