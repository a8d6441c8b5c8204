-- One level of a sift in the list s: the element x, which would stand at the index i, goes on to the index j, and y from there to i.
use Rattle.std.proofs.Common.{◌≡◌, ℕ, ◌+◌, ◌-◌, ◌/◌, ◌<◌, ◌≤◌, Bool, true, false, ◌≢◌, List, length, get_or, set, take, drop, [], ◌∷◌, ◌++◌, suc, sym, subst, ◌∙◌, arith}
use Rattle.std.specs.Cmp.{IsStrictWeakOrder}
use Rattle.std.specs.List.{swap}
use Rattle.std.specs.List.Sorted.{IsPermutation}
use Rattle.std.proofs.lemmas.List.{length-set, set_split, drop_all, length-take-le, get_or-take, get_or_default, get_or-set_same, get_or-set_other, set-set}
use Rattle.std.proofs.lemmas.List.Edits.{swap_is, swapped_from_swap, Swapped}
use Rattle.std.proofs.lemmas.List.Sorted.{IsPermutation-swap, IsPermutation-refl, IsPermutation-sym, IsPermutation-to_front}
use Rattle.queue.specs.Tree.{IsChild, IsHeap}
use Rattle.queue.proofs.Steps.{Ordered, OrderedExcept, up_step, up_top, up_done, down_step, down_done}

-- only the element at i may be before the one above it
abbrev pub OrderedButAbove : {X : Type 0} → (X → X → Bool) → List X → ℕ → Type 0
OrderedButAbove {X} before xs i = (d : X) → OrderedExcept before (λ _ k. k ≡ i) (λ k. get_or xs k d) (length xs) i

-- only the children of the element at i may be before it
abbrev pub OrderedButBelow : {X : Type 0} → (X → X → Bool) → List X → ℕ → Type 0
OrderedButBelow {X} before xs i = (d : X) → OrderedExcept before (λ p _. p ≡ i) (λ k. get_or xs k d) (length xs) i

-- the order of the tree, by indices that are one more
pub to_heap : {X : Type 0} (before : X → X → Bool) (xs : List X) → ((d : X) → Ordered before (λ k. get_or xs k d) (length xs)) → IsHeap before xs
to_heap before xs h d k kl = h d (k / 2) (k + 1) (omega arith, omega arith) kl

pub from_heap : {X : Type 0} (before : X → X → Bool) (xs : List X) → IsHeap before xs → (d : X) → Ordered before (λ k. get_or xs k d) (length xs)
from_heap before xs h d p k c kl =
    let ek : k - 1 + 1 ≡ k = omega arith in
    let ep : (k - 1) / 2 ≡ p = omega arith in
    let r = h d (k - 1) (omega arith) in
    rw (ek, ep) at r

-- the list as if x stood at i, and a step later, where y has moved from j to i
module _ {X : Type 0} (s : List X) (i j : ℕ) (x y : X) where
  abbrev pub here : List X
  here = set s i x

  abbrev pub there : List X
  there = set (set s i y) j x

  module _ (il : i < length s) (jl : j < length s) (ne : j ≢ i) (is : y ≡ get_or s j y) where
    at_i : (e : X) → get_or here i e ≡ x
    at_i e = get_or-set_same s i x e il

    at_j : (e : X) → get_or here j e ≡ y
    at_j e = get_or-set_other s i j x e ne ∙ (get_or_default s j e y jl ∙ sym is)

    length-here : length here ≡ length s
    length-here = length-set s i x

    length-there : length here ≡ length there
    length-there = omega (arith, length-here, length-set (set s i y) j x, length-set s i y)

    swaps : there ≡ swap here i j
    swaps = rw (at_j y, at_i y, set-set s i x y) at (swap_is here i j y (omega (arith, il, length-here)) (omega (arith, jl, length-here)))

    swapped : (e : X) → Swapped (λ k. get_or here k e) (λ k. get_or there k e) i j
    swapped e = swapped_from_swap here there i j e (omega (arith, il, length-here)) (omega (arith, jl, length-here)) swaps

    -- what is held stays
    pub exchanged : IsPermutation here there
    exchanged = IsPermutation-swap here there i j (omega (arith, il, length-here)) (omega (arith, jl, length-here)) swaps

    module _ (before : X → X → Bool) (o : IsStrictWeakOrder before) where
      -- one level up
      pub moved_up : IsChild j i → before x y ≡ true → OrderedButAbove before here i → OrderedButAbove before there j
      moved_up ch b up e =
          let ih : i < length here = omega (arith, il, length-here) in
          subst (λ n. OrderedExcept before (λ _ k. k ≡ j) (λ k. get_or there k e) n j) length-there
          (up_step before o (λ k. get_or here k e) (λ k. get_or there k e) (length here) i j (up e) ch ih (rw (at_i e, at_j e) b) (swapped e))

      pub stays_below_parent : IsChild j i → before x y ≡ false → OrderedButAbove before here i → IsHeap before here
      stays_below_parent ch b up = to_heap before here (λ e. up_done before o (λ k. get_or here k e) (length here) i j (up e) ch (rw (at_i e, at_j e) b))

      -- one level down, to the child that none is before
      module _ (ch : IsChild i j) (least : (k : ℕ) (e : X) → IsChild i k → k < length s → before (get_or s k e) (get_or s j e) ≡ false) (down : OrderedButBelow before here i) where
        not_before : (k : ℕ) (e : X) → IsChild i k → k < length here → before (get_or here k e) y ≡ false
        not_before k e ck kl =
            let nk : k ≢ i = omega (arith, ck.0) in
            let l = least k e ck (omega (arith, kl, length-here)) in
            rw (get_or-set_other s i k x e nk, is, get_or_default s j y e jl) l

        pub moved_down : before y x ≡ true → OrderedButBelow before there j
        moved_down b e =
            let jh : j < length here = omega (arith, jl, length-here) in
            subst (λ n. OrderedExcept before (λ p _. p ≡ j) (λ k. get_or there k e) n j) length-there
            (down_step before o (λ k. get_or here k e) (λ k. get_or there k e) (length here) i j (down e) ch jh (rw (at_i e, at_j e) b)
            (λ k ck kl. rw (at_j e) (not_before k e ck kl))
            (swapped e))

        pub stays_above_children : before y x ≡ false → IsHeap before here
        stays_above_children b = to_heap before here
            (λ e. down_done before o (λ k. get_or here k e) (length here) i (down e) (λ k ck kl. rw (at_i e) (o.chain _ _ _ (not_before k e ck kl) b)))

-- at the top nothing is above, at the bottom nothing below
pub at_top : {X : Type 0} (before : X → X → Bool) (o : IsStrictWeakOrder before) (xs : List X) (i : ℕ) → i ≡ 0 → OrderedButAbove before xs i → IsHeap before xs
at_top before o xs i z up = to_heap before xs (λ e. up_top before o (λ k. get_or xs k e) (length xs) i (up e) z)

pub at_bottom : {X : Type 0} (before : X → X → Bool) (o : IsStrictWeakOrder before) (xs : List X) (i : ℕ) → length xs / 2 ≤ i → OrderedButBelow before xs i → IsHeap before xs
at_bottom before o xs i le down = to_heap before xs (λ e. down_done before o (λ k. get_or xs k e) (length xs) i (down e) (λ k ck kN. absurd (omega arith)))

-- x instead of the last element of a list that is a heap without it, and instead of the first of a heap
pub last_but_above : {X : Type 0} (before : X → X → Bool) (s : List X) (n : ℕ) (x : X) → n + 1 ≡ length s → IsHeap before (take n s) → OrderedButAbove before (set s n x) n
last_but_above before s n x len h d = (
  (λ p k c kl ne.
      let kn : k < n = omega (arith, kl, length-set s n x) in
      let np : p ≢ n = omega arith in
      let tl : length (take n s) ≡ n = length-take-le n s (omega arith) in
      let r = from_heap before (take n s) h d p k c (omega arith) in
      rw (get_or-set_other s n k x d ne, get_or-set_other s n p x d np)
      (rw (get_or-take n s k d kn, get_or-take n s p d (omega arith)) at r)),
  (λ p k cp ck kl. absurd (omega (arith, kl, ck, length-set s n x))),
)

pub last_holds : {X : Type 0} (s : List X) (n : ℕ) (x : X) → n + 1 ≡ length s → IsPermutation (x ∷ take n s) (set s n x)
last_holds s n x len =
    let e : set s n x ≡ take n s ++ x ∷ [] = rw (drop_all (suc n) s (omega arith)) at (set_split s n x (omega arith)) in
    rw e (IsPermutation-sym _ _ (IsPermutation-to_front (take n s) x))

pub first_but_below : {X : Type 0} (before : X → X → Bool) (s : List X) (x : X) → IsHeap before s → OrderedButBelow before (set s 0 x) 0
first_but_below before s x h d = (
  (λ p k c kl ne.
      let nk : k ≢ 0 = omega arith in
      rw (get_or-set_other s 0 k x d nk, get_or-set_other s 0 p x d ne) (from_heap before s h d p k c (omega (arith, kl, length-set s 0 x)))),
  (λ p k cp ck kl. absurd (omega arith)),
)

pub first_holds : {X : Type 0} (s : List X) (x : X) → 0 < length s → IsPermutation (x ∷ drop 1 s) (set s 0 x)
first_holds [] x some = absurd (omega arith)
first_holds (y ∷ ys) x some = IsPermutation-refl _
