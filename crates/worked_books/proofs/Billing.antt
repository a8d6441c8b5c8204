-- A bill is that of any settings that are the same.
use Rattle.std.proofs.Common.{◌≡◌, ℕ, ap}
use Rattle.schedule.specs.InForce.{horizon, Same}
use Rattle.schedule.specs.Draws.{drawn}
use Rattle.schedule.proofs.SumsLaws.{upto_same}

pub drawn_same : (D s q : ℕ → ℕ) → Same horizon s q → drawn horizon D s ≡ drawn horizon D q
drawn_same D s q same = upto_same (λ t. D (s t)) (λ t. D (q t)) horizon (λ t lt. ap D (same t lt))
