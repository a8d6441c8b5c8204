-- The start of a hull: the last tick without slack.
use Rattle.std.proofs.Common.{◌≡◌, ℕ, zero, suc, ◌+◌, ◌<◌, ◌≤◌, List, get_or, length, take, inl, inr, Option, None, Some, MatchOption, unwrap_or, refl, sym, ap, arith}
use Rattle.std.proofs.lemmas.List.{get_or-take, length-take-le}
use Rattle.std.proofs.lemmas.Bool.{cases_eq, cases_lt}
use Rattle.std.proofs.lemmas.Bool.Decides.{nat_tests}
use Rattle.schedule.specs.Certificate.{listed}
use Rattle.schedule.specs.Placing.{low_end, slack_after}
use Rattle.schedule.proofs.Deadlines.{low_end_begun, low_end_greatest}

-- a tick without slack is the low end of itself
low_here : (g : ℕ → ℕ) (a : ℕ) → g a ≡ 0 → low_end g a ≡ a
low_here g zero none = refl
low_here g (suc a) none = grind (arith, nat_tests)

-- past a tick the low end stays as long as there is slack
low_past : (g : ℕ → ℕ) (a f : ℕ) → a ≤ f → ((k : ℕ) → a < k → k ≤ f → 0 < g k) → low_end g f ≡ low_end g a
low_past g a zero le some = let e : zero ≡ a = omega arith in ap (low_end g) e
low_past g a (suc f) le some = elim (cases_eq a (suc f)) [
  | inl same ↦ ap (low_end g) (sym same)
  | inr other ↦ let here = some (suc f) (omega arith) (omega arith) in let rest = low_past g a f (omega arith) (λ k ak kf. some k ak (omega arith)) in grind (arith, nat_tests)
]

-- r is the last index of a 0 in a list, or none
abbrev pub LastZero : List ℕ → Option ℕ → Type 0
LastZero xs r = MatchOption r ((k : ℕ) → k < length xs → 0 < get_or xs k 0) (λ a. (a < length xs) × (get_or xs a 0 ≡ 0) × ((k : ℕ) → a < k → k < length xs → 0 < get_or xs k 0))

-- found in the slack up to f it is the low end
pub low_end_found : (xs : List ℕ) (f : ℕ) (r : Option ℕ) → f < length xs → LastZero (take (f + 1) xs) r → unwrap_or r 0 ≡ low_end (listed xs) f
low_end_found xs f None within some =
    let size = length-take-le (f + 1) xs (omega arith) in
    sym (low_past (listed xs) 0 f (omega arith) (λ k _ kf. omega (arith, some k (omega (arith, size)), get_or-take (f + 1) xs k 0 (omega arith))))
low_end_found xs f (Some a) within (af, none, some) =
    let size = length-take-le (f + 1) xs (omega arith) in
    sym (rw (
      low_past (listed xs) a f (omega (arith, size)) (λ k ak kf. omega (arith, some k ak (omega (arith, size)), get_or-take (f + 1) xs k 0 (omega arith))),
      low_here (listed xs) a (omega (arith, get_or-take (f + 1) xs a 0 (omega (arith, size)))),
    ) refl)

-- there is slack past the low end
pub low_end_last : (g : ℕ → ℕ) (f a : ℕ) → low_end g f < a → a ≤ f → 0 < g a
low_end_last g f a la af = elim (cases_eq (g a) 0) [
  | inl none ↦ absurd (omega (arith, low_end_greatest g f a af none))
  | inr some ↦ omega arith
]

-- and none at it, but at 0
low_end_none : (g : ℕ → ℕ) (f : ℕ) → 0 < low_end g f → g (low_end g f) ≡ 0
low_end_none g zero pos = absurd (omega arith)
low_end_none g (suc f) pos = elim (cases_eq (g (suc f)) 0) [
  | inl none ↦ rw (low_here g (suc f) none) none
  | inr some ↦ let e : low_end g (suc f) ≡ low_end g f = grind (arith, nat_tests) in rw e (low_end_none g f (omega (arith, e)))
]

-- a unit at the low end or later lets the low end only rise
pub low_end_rises : (g : ℕ → ℕ) (f u : ℕ) → low_end g f ≤ u → low_end g f ≤ low_end (slack_after f u g) f
low_end_rises g f u lu = let begun = low_end_begun g f in elim (cases_lt (low_end (slack_after f u g) f) (low_end g f)) [
  | inl less ↦
      let some = low_end_last (slack_after f u g) f (low_end g f) less begun in
      let none = low_end_none g f (omega arith) in
      absurd (let z : ◌≡◌ {A = ℕ} 0 1 = grind (arith, nat_tests) in omega arith)
  | inr rises ↦ rises
]

-- a unit at the start of the window or later leaves it
low_end_same : (g h : ℕ → ℕ) (f : ℕ) → ((a : ℕ) → a ≤ f → h a ≡ g a) → low_end h f ≡ low_end g f
low_end_same g h zero same = refl
low_end_same g h (suc f) same = rw (same (suc f) (omega arith), low_end_same g h f (λ a af. same a (omega arith))) refl

pub low_end_stays : (g : ℕ → ℕ) (f u : ℕ) → f ≤ u → low_end (slack_after f u g) f ≡ low_end g f
low_end_stays g f u fu = low_end_same g (slack_after f u g) f (λ a af. grind (arith, nat_tests))
