-- A list that is copied into another, element by element.
use Rattle.std.proofs.Common.{◌≡◌, ℕ, ◌+◌, ◌<◌, ◌≤◌, List, ◌++◌, ◌∷◌, [], length, get_or, take, set, sym, ap, ◌∙◌, add-one}
use Rattle.std.proofs.Math.Seq.{take-suc, take-suc-set}
use Rattle.std.proofs.lemmas.List.{take_all}

-- one more element is copied
pub copied_more : (xs ys : List ℕ) (i : ℕ) → i < length xs → i < length ys → take i ys ≡ take i xs → take (i + 1) (set ys i (get_or xs i 0)) ≡ take (i + 1) xs
copied_more xs ys i lt lt_ys same =
    rw (add-one i) (take-suc-set ys i (get_or xs i 0) lt_ys ∙ ap (λ zs. zs ++ get_or xs i 0 ∷ []) same ∙ sym (take-suc xs i 0 lt))

-- at the end they are the same
pub copied_all : (xs ys : List ℕ) (i : ℕ) → length xs ≤ i → length ys ≤ i → take i ys ≡ take i xs → ys ≡ xs
copied_all xs ys i le le_ys same = sym (take_all i ys le_ys) ∙ same ∙ take_all i xs le
