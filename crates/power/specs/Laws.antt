-- The laws of a power model's draws D, at the settings 0 to `last`.
use Rattle.std.specs.Prelude.{ℕ, ◌+◌, ◌-◌, ◌*◌, ◌≤◌}

-- a draw never falls as the setting rises
abbrev pub Rising : ℕ → (ℕ → ℕ) → Type 0
Rising last D = (s : ℕ) → 1 ≤ s → s ≤ last → D (s - 1) ≤ D s

-- each step up adds at least as much as the step before it
abbrev pub Convex : ℕ → (ℕ → ℕ) → Type 0
Convex last D = (s : ℕ) → 2 ≤ s → s ≤ last → 2 * D (s - 1) ≤ D s + D (s - 2)

-- both laws
abbrev pub Lawful : ℕ → (ℕ → ℕ) → Type 0
Lawful last D = Rising last D × Convex last D
