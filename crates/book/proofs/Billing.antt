-- What settings draw, as a sum over a list and as one over ticks.
use Rattle.std.proofs.Common.{◌≡◌, ℕ, zero, suc, ◌+◌, List, [], ◌∷◌, ◌∙◌, length, sum_by, refl, sym, ap, arith}
use Rattle.std.proofs.lemmas.List.Sums.{sum_by-cons}
use Rattle.schedule.specs.Certificate.{listed}
use Rattle.schedule.specs.Draws.{drawn}
use Rattle.schedule.specs.InForce.{horizon, Same}
use Rattle.schedule.proofs.SumsLaws.{upto_same, upto_shift}
use Rattle.schedule.proofs.Theory.{theory}
use Rattle.book.specs.Book.{View}
use Rattle.book.specs.Settings.{settings_of}
use Rattle.book.specs.Bills.{bill_of}

-- the sum over a list is the one over as many ticks
sum_by-drawn : (D : ℕ → ℕ) (n : ℕ) (xs : List ℕ) → length xs ≡ n → sum_by D xs ≡ drawn n D (listed xs)
sum_by-drawn D zero [] long = refl
sum_by-drawn D zero (x ∷ xs) long = absurd (omega arith)
sum_by-drawn D (suc n) [] long = absurd (omega arith)
sum_by-drawn D (suc n) (x ∷ xs) long =
    sum_by-cons D x xs ∙ ap (λ s. D x + s) (sum_by-drawn D n xs (omega arith)) ∙ sym (upto_shift (λ t. D (listed (x ∷ xs) t)) n)

-- a list of the settings in force draws what a book is billed
pub billed : (D : ℕ → ℕ) (b : View) (xs : List ℕ) → length xs ≡ 256 → Same horizon (listed xs) (settings_of b) → sum_by D xs ≡ bill_of D b
billed D b xs long same =
    sum_by-drawn D horizon xs (long ∙ sym theory.ticks) ∙ upto_same (λ t. D (listed xs t)) (λ t. D (settings_of b t)) horizon (λ t lt. ap D (same t lt))
