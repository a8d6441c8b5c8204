-- A filter of a list in another order gives the same elements in another order.
use Rattle.std.proofs.Common.{ℕ, zero, suc, ◌<◌, Bool, inl, inr, List, [], ◌∷◌, length, get_or, set, swap, arith}
use Rattle.std.specs.List.{filter}
use Rattle.std.specs.List.Sorted.{IsPermutation}
use Rattle.std.proofs.lemmas.Bool.{cases_Bool}
use Rattle.std.proofs.lemmas.List.Sorted.{IsPermutation-refl, IsPermutation-cons, IsPermutation-trans, IsPermutation-middle, IsPermutation-keeps}

module _ {X : Type 0} (p : X → Bool) where
  -- the elements that pass, in two lists
  abbrev Alike : List X → List X → Type 0
  Alike xs ys = IsPermutation (filter p xs) (filter p ys)

  join : (xs ys zs : List X) → Alike xs ys → Alike ys zs → Alike xs zs
  join xs ys zs = IsPermutation-trans (filter p xs) (filter p ys) (filter p zs)

  -- behind the same element
  behind : (x : X) (xs ys : List X) → Alike xs ys → Alike (x ∷ xs) (x ∷ ys)
  behind x xs ys h = elim (cases_Bool (p x)) [ inl t ↦ rw t (IsPermutation-cons x (filter p xs) (filter p ys) h) | inr t ↦ rw t h ]

  -- with the first two exchanged
  turned : (x y : X) (xs : List X) → Alike (x ∷ y ∷ xs) (y ∷ x ∷ xs)
  turned x y xs = elim (cases_Bool (p x)) [
    | inl t ↦ elim (cases_Bool (p y)) [ inl u ↦ rw (t, u) (IsPermutation-middle (x ∷ []) y (filter p xs)) | inr u ↦ rw (t, u) (IsPermutation-refl (x ∷ filter p xs)) ]
    | inr t ↦ rw t (IsPermutation-refl (filter p (y ∷ xs)))
  ]

  -- with the first and another exchanged
  fetched : (xs : List X) (j : ℕ) (x d : X) → j < length xs → Alike (x ∷ xs) (get_or xs j d ∷ set xs j x)
  fetched [] j x d lt = absurd (omega arith)
  fetched (y ∷ xs) zero x d lt = turned x y xs
  fetched (y ∷ xs) (suc j) x d lt =
      let z = get_or xs j d in
      join (x ∷ y ∷ xs) (y ∷ x ∷ xs) (z ∷ y ∷ set xs j x) (turned x y xs)
      (join (y ∷ x ∷ xs) (y ∷ z ∷ set xs j x) (z ∷ y ∷ set xs j x) (behind y (x ∷ xs) (z ∷ set xs j x) (fetched xs j x d (omega arith))) (turned y z (set xs j x)))

  -- with any two exchanged
  exchanged : (xs : List X) (i j : ℕ) (d : X) → i < length xs → j < length xs → Alike xs (set (set xs i (get_or xs j d)) j (get_or xs i d))
  exchanged [] i j d lt below = absurd (omega arith)
  exchanged (x ∷ xs) zero zero d lt below = IsPermutation-refl (filter p (x ∷ xs))
  exchanged (x ∷ xs) zero (suc j) d lt below = fetched xs j x d (omega arith)
  exchanged (x ∷ xs) (suc i) zero d lt below = fetched xs i x d (omega arith)
  exchanged (x ∷ xs) (suc i) (suc j) d lt below = behind x xs (set (set xs i (get_or xs j d)) j (get_or xs i d)) (exchanged xs i j d (omega arith) (omega arith))

  swapped : (xs : List X) (i j : ℕ) → i < length xs → j < length xs → Alike xs (swap xs i j)
  swapped [] i j lt below = IsPermutation-refl []
  swapped (x ∷ xs) i j lt below = exchanged (x ∷ xs) i j x lt below

  pub IsPermutation-filter : (xs ys : List X) → IsPermutation xs ys → IsPermutation (filter p xs) (filter p ys)
  IsPermutation-filter xs = IsPermutation-keeps xs (Alike xs) (IsPermutation-refl (filter p xs)) (λ ys i j lt below h. join xs ys (swap ys i j) h (swapped ys i j lt below))
