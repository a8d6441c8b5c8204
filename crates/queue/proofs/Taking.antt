-- What a take of the first element of a heap says.
use Rattle.std.proofs.Common.{◌≡◌, ℕ, ◌+◌, ◌-◌, ◌<◌, ◌≤◌, Bool, false, List, [], ◌∷◌, ◌++◌, length, get_or, take, drop, Some, refl, sym, ap, subst, ◌∙◌, length-append, length-drop, arith}
use Rattle.std.specs.Cmp.{IsStrictWeakOrder}
use Rattle.std.specs.List.{AllByRecursion}
use Rattle.std.specs.List.Sorted.{IsPermutation}
use Rattle.std.proofs.ByRecursion.{All-from_get_or}
use Rattle.std.proofs.lemmas.List.{take_at, take_more, length-take-le, get_or-take, get_or_default}
use Rattle.std.proofs.lemmas.List.Sorted.{IsPermutation-cons, IsPermutation-to_front, IsPermutation-trans, IsPermutation-refl, length_permutation}
use Rattle.queue.specs.Order.{JustOne}
use Rattle.queue.specs.Slots.{Slots, elements_of}
use Rattle.queue.specs.Tree.{IsHeap}
use Rattle.queue.specs.Says.{TakeSays, LeastSays, ReplaceSays}
use Rattle.queue.proofs.Steps.{least_at_root}
use Rattle.queue.proofs.Sifting.{from_heap}
use Rattle.queue.proofs.Pinned.{is_least}

starts : {X : Type 0} (s : List X) (d : X) → 0 < length s → s ≡ get_or s 0 d ∷ drop 1 s
starts [] d some = absurd (omega arith)
starts (x ∷ s) d some = refl

-- of the m + 1 elements that q holds as a heap the first one leaves
module _ {X : Type 0} {before : X → X → Bool} (same : X → X → Bool) (one : (x y : X) → JustOne (before x y) (same x y) (before y x)) (o : IsStrictWeakOrder before)
    (q r : Slots X) (m : ℕ) (d : X) (fits : q.count ≤ length q.slots) (ordered : IsHeap before (elements_of q)) (count : q.count ≡ m + 1) where
  taken : r.count ≡ m → length r.slots ≡ length q.slots → IsPermutation (elements_of q) (get_or q.slots 0 d ∷ elements_of r) → TakeSays before same q r (Some (get_or q.slots 0 d))
  taken left slots holds =
      let x = get_or q.slots 0 d in
      let len : length (elements_of q) ≡ q.count = length-take-le q.count q.slots fits in
      let some : 0 < length (elements_of q) = omega (arith, len, count) in
      let at_0 : (e : X) → get_or (elements_of q) 0 e ≡ x = λ e. get_or_default (elements_of q) 0 e d some ∙ get_or-take q.count q.slots 0 d (omega (arith, count)) in
      let least : AllByRecursion (λ y. before y x ≡ false) (elements_of q) =
      All-from_get_or (λ y. before y x ≡ false) (elements_of q) d (λ k kl. rw (at_0 d) at (least_at_root before o (λ j. get_or (elements_of q) j d) (length (elements_of q)) (from_heap before (elements_of q) ordered d) k kl)) in
      record {
        leaves = record { slots = slots; count = omega (arith, count, left); holds = holds; least = least };
        pinned = is_least same one o (elements_of q) x (0, some, at_0) least;
      }

  -- the last one comes instead of it, and the m that are left come in the order of h
  pub first_taken : (e : X) (h : List X) → 0 < m → IsPermutation (get_or q.slots m e ∷ drop 1 (take m q.slots)) h → r ≡ record { slots = h ++ drop m q.slots; count = m } → TakeSays before same q r (Some (get_or q.slots 0 d))
  first_taken e h some p is =
      let s = q.slots in
      let x = get_or s 0 d in
      let y = get_or s m e in
      let t = take m s in
      let lt : length t ≡ m = length-take-le m s (omega (arith, count, fits)) in
      let et : t ≡ x ∷ drop 1 t = starts t d (omega (arith, lt, some)) ∙ ap (λ z. z ∷ drop 1 t) (get_or-take m s 0 d some) in
      let lh : length h ≡ m = length_permutation _ _ p ∙ (sym (ap length et) ∙ lt) in
      let all : elements_of q ≡ x ∷ (drop 1 t ++ y ∷ []) = ap (λ n. take n s) count ∙ (take_more s m e (omega (arith, count, fits)) ∙ ap (λ u. u ++ y ∷ []) et) in
      let left : elements_of r ≡ h = ap elements_of is ∙ take_at h (drop m s) m lh in
      taken (ap (λ v. v.count) is) (ap (λ v. length v.slots) is ∙ omega (arith, length-append h (drop m s), length-drop m s, lh, count, fits))
      (rw (all, left) (IsPermutation-cons x _ _ (IsPermutation-trans _ _ _ (IsPermutation-to_front (drop 1 t) y) p)))

  -- it was the only one
  pub only_taken : m ≤ 0 → r ≡ record { slots = q.slots; count = m } → TakeSays before same q r (Some (get_or q.slots 0 d))
  only_taken none is =
      let s = q.slots in
      let m0 : m ≡ 0 = omega arith in
      let all : elements_of q ≡ get_or s 0 d ∷ [] = ap (λ n. take n s) count ∙ (ap (λ n. take (n + 1) s) m0 ∙ ap (take 1) (starts s d (omega (arith, count, fits)))) in
      let left : elements_of r ≡ [] = ap elements_of is ∙ ap (λ n. take n s) m0 in
      taken (ap (λ v. v.count) is) (ap (λ v. length v.slots) is) (rw (all, left) (IsPermutation-refl _))

-- what stays without the first of the elements that q holds as a heap, and what is held with x besides that
module _ {X : Type 0} {before : X → X → Bool} (same : X → X → Bool) (one : (x y : X) → JustOne (before x y) (same x y) (before y x)) (o : IsStrictWeakOrder before)
    (q : Slots X) (d : X) (fits : q.count ≤ length q.slots) (ordered : IsHeap before (elements_of q)) (some : 0 < q.count) where
  abbrev rest : Slots X
  rest = record { slots = drop 1 (elements_of q) ++ drop (q.count - 1) q.slots; count = q.count - 1 }

  length-others : length (drop 1 (elements_of q)) ≡ q.count - 1
  length-others = omega (arith, length-drop 1 (elements_of q), length-take-le q.count q.slots fits)

  elements_of-rest : elements_of rest ≡ drop 1 (elements_of q)
  elements_of-rest = take_at (drop 1 (elements_of q)) (drop (q.count - 1) q.slots) (q.count - 1) length-others

  length-rest : length rest.slots ≡ length q.slots
  length-rest = omega (arith, length-append (drop 1 (elements_of q)) (drop (q.count - 1) q.slots), length-drop (q.count - 1) q.slots, length-others, some, fits)

  first_out : TakeSays before same q rest (Some (get_or q.slots 0 d))
  first_out =
      let e : elements_of q ≡ get_or q.slots 0 d ∷ elements_of rest = starts (elements_of q) d (omega (arith, length-take-le q.count q.slots fits, some))
      ∙ (ap (λ z. z ∷ drop 1 (elements_of q)) (get_or-take q.count q.slots 0 d some) ∙ ap (λ l. get_or q.slots 0 d ∷ l) (sym elements_of-rest)) in
      taken same one o q rest (q.count - 1) d fits ordered (omega (arith, some)) refl length-rest (subst (λ l. IsPermutation l (get_or q.slots 0 d ∷ elements_of rest)) (sym e) (IsPermutation-refl _))

  pub least_said : LeastSays before same q (Some (get_or q.slots 0 d))
  least_said = (rest, first_out)

  -- x comes instead of the first one, and all come in the order of h
  pub first_replaced : (x : X) (h : List X) → IsPermutation (x ∷ drop 1 (elements_of q)) h → ReplaceSays before same x q record { slots = h ++ drop q.count q.slots; count = q.count } (Some (get_or q.slots 0 d))
  first_replaced x h p =
      let lh : length h ≡ q.count = omega (arith, length_permutation _ _ p, length-others, some) in
      record {
        left = rest;
        taken = first_out;
        refilled = record {
          slots = omega (arith, length-append h (drop q.count q.slots), length-drop q.count q.slots, lh, fits, length-rest);
          count = omega (arith, some);
          holds = rw (elements_of-rest, take_at h (drop q.count q.slots) q.count lh) p;
        };
      }
