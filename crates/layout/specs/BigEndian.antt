-- Numbers in bytes, the high byte first.
use Rattle.std.specs.Prelude.{ℕ, zero, suc, ◌/◌, ◌%◌, List, [], ◌∷◌, ◌++◌, take, drop}
use Rattle.std.specs.Int.Digits.{number_from_digits as number_in}

-- the number that these bytes hold
abbrev pub number : List ℕ → ℕ
number bs = number_in 256 bs

-- the k bytes of a number
abbrev pub bytes : ℕ → ℕ → List ℕ
bytes zero n = []
bytes (suc k) n = bytes k (n / 256) ++ (n % 256 ∷ [])

-- n bytes, from the one with this index on
abbrev pub part : ℕ → ℕ → List ℕ → List ℕ
part from n bs = take n (drop from bs)
