-- What the least setting at which draws D break a law says of the laws.
use Rattle.std.specs.Prelude.{◌≡◌, ℕ, zero, suc, ◌+◌, ◌<◌, ◌≤◌, Bool, true, false, if◌then◌else◌, None, Some}
use Rattle.std.specs.Prelude.{Option, find, refl}
use Rattle.std.specs.List.{range_with_len}
use Rattle.std.proofs.Common.{arith}
use Rattle.std.proofs.lemmas.Bool.{cases_eq, cases_order}
use Rattle.std.proofs.lemmas.Bool.Decides.{nat_tests}
use Rattle.power.specs.Laws.{Lawful}
use Rattle.power.specs.Breaks.{is_break_at, first_break}

-- what a search of n settings from s on finds: no break, or a break with none before it
abbrev pub Found : (ℕ → ℕ) → (s n : ℕ) → Option ℕ → Type 0
Found D s n None = (k : ℕ) → s ≤ k → k < s + n → is_break_at D k ≡ false
Found D s n (Some j) =
    (s ≤ j) × (j < s + n) × (is_break_at D j ≡ true) × ((k : ℕ) → s ≤ k → k < j → is_break_at D k ≡ false)

-- one setting more before those of a search
found_step : (D : ℕ → ℕ) (s n : ℕ) (b : Bool) (o : Option ℕ) → is_break_at D s ≡ b → Found D (s + 1) n o
    → Found D s (suc n) (if b then Some s else o)
found_step D s n true o e f = (omega arith, omega arith, e, λ k h l. absurd (omega arith))
found_step D s n false None e f = λ k h l. grind (arith, f k, cases_eq k s)
found_step D s n false (Some j) e f = (omega arith, omega arith, f.2, λ k h l. grind (arith, f.3 k, cases_eq k s))

found_from : (D : ℕ → ℕ) (s n : ℕ) → Found D s n (find (is_break_at D) (range_with_len s n))
found_from D s zero = λ k h l. absurd (omega arith)
found_from D s (suc n) = found_step D s n _ _ refl (found_from D (s + 1) n)

-- at the least setting a law breaks, and at none before it
pub found : (D : ℕ → ℕ) → Found D 1 255 (first_break D)
unfolding first_break
found D = found_from D 1 255

-- two searches of the same settings find the same
same : (D : ℕ → ℕ) (s n : ℕ) (a b : Option ℕ) → Found D s n a → Found D s n b → a ≡ b
same D s n None None f g = refl
same D s n None (Some j) f g = let e = f j g.0 g.1 in let t = g.2 in cc
same D s n (Some i) None f g = let e = g i f.0 f.1 in let t = f.2 in cc
same D s n (Some i) (Some j) f g = let e : i ≡ j = grind (arith, f.3 j, g.3 i, cases_order i j) in cc

pub found_is : (D : ℕ → ℕ) (o : Option ℕ) → Found D 1 255 o → o ≡ first_break D
found_is D o f = same D 1 255 o (first_break D) f (found D)

-- draws that break no law up to `last` keep both
pub keeps : (D : ℕ → ℕ) (last : ℕ) → ((k : ℕ) → 1 ≤ k → k ≤ last → is_break_at D k ≡ false) → Lawful last D
keeps D last none = (
  λ s h k. grind (arith, nat_tests, none s h k),
  λ s h k. grind (arith, nat_tests, none s (omega arith) k),
)

-- draws that break no law keep both
pub lawful : (D : ℕ → ℕ) → first_break D ≡ None → Lawful 255 D
lawful D e = keeps D 255 (λ k h l. rw e at (found D) k h (omega arith))
