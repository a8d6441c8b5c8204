-- What a plan says.
use Rattle.std.specs.Prelude.{ℕ, ◌+◌, ◌^◌, ◌<◌}
use Rattle.schedule.specs.Placing.{State}
use Rattle.schedule.specs.Certificate.{listed}
use Rattle.planner.specs.declared.plan.Plan.{Plan}

-- a plan of the code as the theory's state: its lists, and 0 after them
abbrev pub state_of : Plan → State
state_of p = record { settings = listed p.units; slack = listed p.slack }

-- k units more fit each setting and each slack, as numbers of 32 bits
abbrev pub HasRoom : ℕ → State → Type 0
HasRoom k st = (t : ℕ) → (st.settings t + k < 2 ^ 32) × (st.slack t + k < 2 ^ 32)
