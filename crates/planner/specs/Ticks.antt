-- Sets of ticks as lists.
use Rattle.std.specs.Prelude.{ℕ, Bool, true, false, List, slice_index_or}

-- the free ticks by a list, with each tick past its end
abbrev pub is_free_in : List Bool → ℕ → Bool
is_free_in xs t = slice_index_or xs t true

-- the ticks of a list
abbrev pub is_marked_in : List Bool → ℕ → Bool
is_marked_in xs t = slice_index_or xs t false
