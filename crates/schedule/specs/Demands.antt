-- Demands: the open jobs, as settings see them.
use Rattle.std.specs.Prelude.{ℕ, ◌+◌, ◌<◌, ◌≤◌, List, [], ◌∷◌}
use Rattle.std.specs.List.{AllByRecursion}

-- an open job seen from now: its window [from, to) in ticks from now, and its work left
pub record Demand : Type 0 where
  pub from : ℕ
  pub to : ℕ
  pub units : ℕ

-- the demand of w units in the window [f, t)
abbrev pub job : ℕ → ℕ → ℕ → Demand
job f t w = record { from = f; to = t; units = w }

-- a demand with work left has a window of a tick or more, which ends by n
abbrev pub Windowed : ℕ → Demand → Type 0
Windowed n d = 0 < d.units → (d.from < d.to) × (d.to ≤ n)

-- every demand has its window within n ticks
abbrev pub Sound : ℕ → List Demand → Type 0
Sound n ds = AllByRecursion (Windowed n) ds

-- every demand is open: it has work left
abbrev pub AllOpen : List Demand → Type 0
AllOpen ds = AllByRecursion (λ d. 0 < d.units) ds

-- an order of serving: by deadline, and in any order among equal deadlines
abbrev pub Sorted : List Demand → Type 0
Sorted [] = Unit {0}
Sorted (d ∷ ds) = AllByRecursion (λ e. d.to ≤ e.to) ds × Sorted ds

-- all the work left
abbrev pub total : List Demand → ℕ
total [] = 0
total (d ∷ ds) = d.units + total ds
