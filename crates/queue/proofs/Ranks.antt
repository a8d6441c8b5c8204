-- A total order as the library's lemmas have it: one way, and what is not before goes along a chain.
use Rattle.std.proofs.Common.{◌≡◌, Bool, true, false, sym, ◌∙◌, inl, inr, arith}
use Rattle.std.specs.Cmp.{IsStrictWeakOrder}
use Rattle.std.proofs.lemmas.Bool.{cases_Bool}
use Rattle.std.proofs.lemmas.Bool.Decides.{nat_tests}
use Rattle.queue.specs.Order.{JustOne}

module _ {X : Type 0} {before same : X → X → Bool}
    (one : (x y : X) → JustOne (before x y) (same x y) (before y x))
    (ordered : (x y z : X) → before x y ≡ true → before y z ≡ true → before x z ≡ true)
    (tied : (x y z : X) → same x y ≡ true → same y z ≡ true → same x z ≡ true) where
  one_way : (x y : X) → before x y ≡ true → before y x ≡ false
  one_way x y h = let o = one x y in grind (arith, nat_tests)

  -- neither is before the other
  pub level : (x y : X) → before x y ≡ false → before y x ≡ false → same x y ≡ true
  level x y h k = let o = one x y in grind (arith, nat_tests)

  not_level : (x y : X) → same x y ≡ true → before x y ≡ false
  not_level x y h = let o = one x y in grind (arith, nat_tests)

  clash : {b : Bool} → b ≡ true → b ≡ false → ⊥
  clash {b} p q = let e : true ≡ false = sym p ∙ q in grind arith

  chain : (x y z : X) → before x y ≡ false → before y z ≡ false → before x z ≡ false
  chain x y z xy yz = elim (cases_Bool (before y x)) [
    | inl yx ↦ elim (cases_Bool (before x z)) [ inl xz ↦ absurd (clash (ordered y x z yx xz) yz) | inr no_xz ↦ no_xz ]
    | inr no_yx ↦ elim (cases_Bool (before z y)) [
      | inl zy ↦ elim (cases_Bool (before x z)) [ inl xz ↦ absurd (clash (ordered x z y xz zy) xy) | inr no_xz ↦ no_xz ]
      | inr no_zy ↦ not_level x z (tied x y z (level x y xy no_yx) (level y z yz no_zy))
    ]
  ]

  pub ranks : IsStrictWeakOrder before
  ranks = record { one_way = one_way; chain = chain }
