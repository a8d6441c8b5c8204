-- The draws of each kind of model, and what a list of settings draws.
use Rattle.std.specs.Prelude.{ℕ, ◌+◌, ◌*◌, max, List, sum_by, slice_index}

-- measured: the number that stands at the setting
abbrev pub draw_at : List ℕ → ℕ → ℕ
draw_at numbers s = slice_index numbers s

-- the cube of a setting
abbrev pub cube : ℕ → ℕ
cube s = s * s * s

-- cube: the fixed draw, and the factor times the cube of the setting
abbrev pub cube_draw : (fixed factor : ℕ) → ℕ → ℕ
cube_draw fixed factor s = fixed + factor * cube s

-- floor: the lower model's draw at the greater of the setting and the floor
abbrev pub floor_draw : (ℕ → ℕ) → (floor : ℕ) → ℕ → ℕ
floor_draw D floor s = D (max s floor)

-- the sum of the draws D over a list of settings
abbrev pub total_draw : (ℕ → ℕ) → List ℕ → ℕ
total_draw D settings = sum_by D settings
