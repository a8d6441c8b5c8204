-- What a list of settings draws.
use Rattle.std.specs.Prelude.{ℕ}
use Rattle.schedule.specs.Sums.{upto}

-- the sum of the draws of n settings, where D s is the draw of the setting s
abbrev pub drawn : ℕ → (ℕ → ℕ) → (ℕ → ℕ) → ℕ
drawn n D s = upto (λ t. D (s t)) n
