-- One step of an element on its way through the tree, over what stands at each index.
use Rattle.std.proofs.Common.{◌≡◌, ℕ, zero, suc, ◌-◌, ◌/◌, ◌<◌, ◌≤◌, Bool, true, false, refl, inl, inr, arith}
use Rattle.std.specs.Cmp.{IsStrictWeakOrder}
use Rattle.std.proofs.lemmas.List.Edits.{Swapped}
use Rattle.std.proofs.lemmas.Bool.{cases_eq, cases_Bool}
use Rattle.queue.specs.Tree.{IsChild}

-- no child among the first n is before its parent
abbrev pub Ordered : {X : Type 0} → (X → X → Bool) → (ℕ → X) → ℕ → Type 0
Ordered before f n = (p k : ℕ) → IsChild p k → k < n → before (f k) (f p) ≡ false

-- the same with some pairs left out, and across i
abbrev pub OrderedExcept : {X : Type 0} → (X → X → Bool) → (ℕ → ℕ → Type 0) → (ℕ → X) → ℕ → ℕ → Type 0
OrderedExcept before out f n i =
    ((p k : ℕ) → IsChild p k → k < n → (out p k → ⊥) → before (f k) (f p) ≡ false)
    × ((p k : ℕ) → IsChild p i → IsChild i k → k < n → before (f k) (f p) ≡ false)

module _ {X : Type 0} (before : X → X → Bool) (o : IsStrictWeakOrder before) where
  at : (g : ℕ → X) (k k' p p' : ℕ) → k ≡ k' → p ≡ p' → (x y : X) → g k' ≡ x → g p' ≡ y → before x y ≡ false → before (g k) (g p) ≡ false
  at g k k' p p' e e' x y h h' r = cc

  pub up_step : (f g : ℕ → X) (n i p : ℕ) → OrderedExcept before (λ _ k. k ≡ i) f n i → IsChild p i → i < n → before (f i) (f p) ≡ true → Swapped f g i p → OrderedExcept before (λ _ k. k ≡ p) g n p
  up_step f g n i p u ch il b s =
      let pi : before (f p) (f i) ≡ false = o.one_way (f i) (f p) b in (
        (λ q k c kl ne. elim (cases_eq k i) [
          | inl e ↦ let e' : q ≡ p = omega arith in at g k i q p e e' (f p) (f i) s.0 s.1 pi
          | inr ni ↦ elim (cases_eq q i) [
            | inl e ↦ let c' : IsChild i k = (omega arith, omega arith) in at g k k q i refl e (f k) (f p) (s.2 k ni ne) s.0 (u.1 p k ch c' kl)
            | inr nq ↦ elim (cases_eq q p) [
              | inl e ↦
                  let c' : IsChild p k = (omega arith, omega arith) in
                  at g k k q p refl e (f k) (f i) (s.2 k ni ne) s.1 (o.chain (f k) (f p) (f i) (u.0 p k c' kl ni) pi)
              | inr np ↦ at g k k q q refl refl (f k) (f q) (s.2 k ni ne) (s.2 q nq np) (u.0 q k c kl ni)
            ]
          ]
        ]),
        (λ q k cq ck kl.
            let nqi : q ≡ i → ⊥ = omega arith in
            let nqp : q ≡ p → ⊥ = omega arith in
            let npi : p ≡ i → ⊥ = omega arith in
            let pq : before (f p) (f q) ≡ false = u.0 q p cq (omega arith) npi in
            elim (cases_eq k i) [
              | inl e ↦ at g k i q q e refl (f p) (f q) s.0 (s.2 q nqi nqp) pq
              | inr ni ↦
                  let nkp : k ≡ p → ⊥ = omega arith in
                  at g k k q q refl refl (f k) (f q) (s.2 k ni nkp) (s.2 q nqi nqp) (o.chain (f k) (f p) (f q) (u.0 p k ck kl ni) pq)
            ]),
      )

  pub up_top : (f : ℕ → X) (n i : ℕ) → OrderedExcept before (λ _ k. k ≡ i) f n i → i ≡ 0 → Ordered before f n
  up_top f n i u e p k c kl = u.0 p k c kl (omega arith)

  pub up_done : (f : ℕ → X) (n i p : ℕ) → OrderedExcept before (λ _ k. k ≡ i) f n i → IsChild p i → before (f i) (f p) ≡ false → Ordered before f n
  up_done f n i p u ch b q k c kl = elim (cases_eq k i) [
    | inl e ↦ let e' : q ≡ p = omega arith in at f k i q p e e' (f i) (f p) refl refl b
    | inr ni ↦ u.0 q k c kl ni
  ]

  pub down_step : (f g : ℕ → X) (n i m : ℕ) → OrderedExcept before (λ p _. p ≡ i) f n i → IsChild i m → m < n → before (f m) (f i) ≡ true → ((k : ℕ) → IsChild i k → k < n → before (f k) (f m) ≡ false) → Swapped f g i m → OrderedExcept before (λ p _. p ≡ m) g n m
  down_step f g n i m u ch ml b least s =
      let im : before (f i) (f m) ≡ false = o.one_way (f m) (f i) b in (
        (λ q k c kl nqm. elim (cases_eq q i) [
          | inl e ↦
              let c' : IsChild i k = (omega arith, omega arith) in
              let nki : k ≡ i → ⊥ = omega arith in
              elim (cases_eq k m) [
                | inl em ↦ at g k m q i em e (f i) (f m) s.1 s.0 im
                | inr nkm ↦ at g k k q i refl e (f k) (f m) (s.2 k nki nkm) s.0 (least k c' kl)
              ]
          | inr nqi ↦
              let nkm : k ≡ m → ⊥ = omega arith in
              elim (cases_eq k i) [
                | inl e ↦ let c' : IsChild q i = (omega arith, omega arith) in at g k i q q e refl (f m) (f q) s.0 (s.2 q nqi nqm) (u.1 q m c' ch ml)
                | inr nki ↦ at g k k q q refl refl (f k) (f q) (s.2 k nki nkm) (s.2 q nqi nqm) (u.0 q k c kl nqi)
              ]
        ]),
        (λ q k cq ck kl.
            let e : q ≡ i = omega arith in
            let nki : k ≡ i → ⊥ = omega arith in
            let nkm : k ≡ m → ⊥ = omega arith in
            let nmi : m ≡ i → ⊥ = omega arith in
            at g k k q i refl e (f k) (f m) (s.2 k nki nkm) s.0 (u.0 m k ck kl nmi)),
      )

  pub down_done : (f : ℕ → X) (n i : ℕ) → OrderedExcept before (λ p _. p ≡ i) f n i → ((k : ℕ) → IsChild i k → k < n → before (f k) (f i) ≡ false) → Ordered before f n
  down_done f n i u b q k c kl = elim (cases_eq q i) [
    | inl e ↦ let c' : IsChild i k = (omega arith, omega arith) in at f k k q i refl e (f k) (f i) refl refl (b k c' kl)
    | inr nq ↦ u.0 q k c kl nq
  ]

  itself : (x : X) → before x x ≡ false
  itself x = elim (cases_Bool (before x x)) [ inl e ↦ o.one_way x x e | inr e ↦ e ]

  root : (f : ℕ → X) (n : ℕ) → Ordered before f n → (fuel k : ℕ) → k ≤ fuel → k < n → before (f k) (f 0) ≡ false
  root f n h zero k le kl = let e : k ≡ 0 = omega arith in at f k 0 0 0 e refl (f 0) (f 0) refl refl (itself (f 0))
  root f n h (suc m) k le kl = elim (cases_eq k 0) [
    | inl e ↦ at f k 0 0 0 e refl (f 0) (f 0) refl refl (itself (f 0))
    | inr ne ↦
        let p = (k - 1) / 2 in
        let c : IsChild p k = (omega arith, omega arith) in
        o.chain (f k) (f p) (f 0) (h p k c kl) (root f n h m p (omega arith) (omega arith))
  ]

  pub least_at_root : (f : ℕ → X) (n : ℕ) → Ordered before f n → (k : ℕ) → k < n → before (f k) (f 0) ≡ false
  least_at_root f n h k kl = root f n h k k (omega arith) kl
