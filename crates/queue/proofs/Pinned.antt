-- Where no two elements have the same rank, just one has none before it.
use Rattle.std.proofs.Common.{◌≡◌, ℕ, ◌<◌, Bool, false, List, [], ◌∷◌, length, get_or, Some, sym, ap, ◌∙◌, inl, inr, arith}
use Rattle.std.specs.Cmp.{IsStrictWeakOrder}
use Rattle.std.specs.List.{ContainsAt, AllByRecursion}
use Rattle.std.proofs.lemmas.List.MinMax.{IsFirstBest-from_best_of}
use Rattle.std.proofs.ByRecursion.{All-get_or}
use Rattle.std.proofs.lemmas.Bool.{cases_lt}
use Rattle.std.proofs.lemmas.Bool.Decides.{nat_tests}
use Rattle.queue.specs.Order.{JustOne}
use Rattle.queue.specs.Says.{NoTies, least_of}

module _ {X : Type 0} {before : X → X → Bool} (same : X → X → Bool) (one : (x y : X) → JustOne (before x y) (same x y) (before y x)) (o : IsStrictWeakOrder before) where
  -- two elements that none is before stand at one index
  not_later : (xs : List X) (i j : ℕ) (d : X) → i < j → j < length xs → NoTies same xs → before (get_or xs i d) (get_or xs j d) ≡ false → before (get_or xs j d) (get_or xs i d) ≡ false → ⊥
  not_later xs i j d ij jl apart no_ij no_ji = let a = apart i j d ij jl in let b = one (get_or xs i d) (get_or xs j d) in let z : ◌≡◌ {A = ℕ} 0 1 = grind (arith, nat_tests) in omega arith

  one_index : (xs : List X) (i j : ℕ) (d : X) → i < length xs → j < length xs → NoTies same xs → before (get_or xs i d) (get_or xs j d) ≡ false → before (get_or xs j d) (get_or xs i d) ≡ false → i ≡ j
  one_index xs i j d il jl apart no_ij no_ji = elim (cases_lt i j) [
    | inl less ↦ absurd (not_later xs i j d less jl apart no_ij no_ji)
    | inr le ↦ elim (cases_lt j i) [
      | inl more ↦ absurd (not_later xs j i d more il apart no_ji no_ij)
      | inr ge ↦ omega arith
    ]
  ]

  pub is_least : (xs : List X) (x : X) → ContainsAt xs x → AllByRecursion (λ y. before y x ≡ false) xs → NoTies same xs → Some x ≡ least_of before xs
  is_least [] x has none apart = absurd (omega (arith, has.1))
  is_least (a ∷ rest) x has none apart =
      let xs = a ∷ rest in
      let b = IsFirstBest-from_best_of o a rest in
      let i = b.0 in
      let j = has.0 in
      let ex : get_or xs j a ≡ x = has.2 a in
      let ij : before (get_or xs i a) (get_or xs j a) ≡ false = rw ex (All-get_or (λ y. before y x ≡ false) xs i a b.1.0 none) in
      let e : i ≡ j = one_index xs i j a b.1.0 has.1 apart ij (b.1.1 j a has.1) in
      ap Some (sym ex ∙ (ap (λ k. get_or xs k a) (sym e) ∙ b.2))
