-- The settings at which draws D break a law.
use Rattle.std.specs.Prelude.{ℕ, ◌+◌, ◌-◌, ◌*◌, Bool, ◌&&◌, ◌||◌, Option, nat_le, nat_lt, find}
use Rattle.std.specs.List.{range_with_len}

-- at s the draw falls, or adds less than the step before it
abbrev pub is_break_at : (ℕ → ℕ) → ℕ → Bool
is_break_at D s = nat_lt (D s) (D (s - 1)) || (nat_le 2 s && nat_lt (D s + D (s - 2)) (2 * D (s - 1)))

-- the least setting at which a law breaks: no law speaks of 0
unfoldable pub first_break : (ℕ → ℕ) → Option ℕ
first_break D = find (is_break_at D) (range_with_len 1 255)
