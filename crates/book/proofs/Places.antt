-- What the first elements of a table are, once an element was added or removed and those after it were shifted by one.
use Rattle.std.proofs.Common.{◌≡◌, ℕ, suc, ◌+◌, ◌-◌, ◌<◌, ◌≤◌, List, [], ◌∷◌, ◌++◌, length, take, drop, set, sym, ap, arith, ◌∙◌, append_assoc}
use Rattle.std.proofs.Math.Seq.{take-set-lt}
use Rattle.std.specs.List.{copy_within, insert, remove}
use Rattle.std.proofs.lemmas.List.{take-take, drop-take, take_more_set, set-append_left, length-drop, length-take-le}
use Rattle.std.proofs.lemmas.List.Edits.{take-paste}

-- the elements from i + 1 to n move down by one index, over the one at i
pub take_removed : {X : Type 0} (xs : List X) (n i : ℕ) → i < n → n ≤ length xs → take (n - 1) (copy_within xs (i + 1) n i) ≡ remove (take n xs) i
take_removed xs n i lt le =
    let k = n - (i + 1) in
    let one : i + 1 ≡ suc i = omega arith in
    let less : n - 1 ≡ i + k = omega arith in
    let whole : n ≡ suc i + k = omega arith in
    let within : i ≤ n = omega arith in
    let moved : take (i + k) (copy_within xs (i + 1) n i) ≡ take i xs ++ take k (drop (i + 1) xs)
    = take-paste xs i (drop (i + 1) xs) k (omega arith) (omega (arith, length-drop (i + 1) xs)) in
    let front : take i (take n xs) ≡ take i xs = take-take i n xs within in
    let back : drop (suc i) (take n xs) ≡ take k (drop (suc i) xs) = ap (λ m. drop (suc i) (take m xs)) whole ∙ drop-take (suc i) k xs in
    ap (λ m. take m (copy_within xs (i + 1) n i)) less ∙ moved ∙ ap (λ m. take i xs ++ take k (drop m xs)) one
    ∙ sym (ap (λ ys. ys ++ drop (suc i) (take n xs)) front ∙ ap (λ ys. take i xs ++ ys) back)

-- the elements from i to n move up by one index, and y goes to i
pub take_inserted : {X : Type 0} (xs : List X) (n i : ℕ) (y : X) → i ≤ n → n < length xs → take (n + 1) (set (copy_within xs i n (i + 1)) i y) ≡ insert (take n xs) i y
take_inserted xs n i y le lt =
    let k = n - i in
    let more : n + 1 ≡ (i + 1) + k = omega arith in
    let whole : n ≡ i + k = omega arith in
    let tail = take k (drop i xs) in
    let moved : take ((i + 1) + k) (copy_within xs i n (i + 1)) ≡ take (i + 1) xs ++ tail
    = take-paste xs (i + 1) (drop i xs) k (omega arith) (omega (arith, length-drop i xs)) in
    let written : set (take (i + 1) xs) i y ≡ take i xs ++ y ∷ []
    = sym (take-set-lt (i + 1) xs i y (omega arith)) ∙ take_more_set xs i y (omega arith) in
    let front : take i (take n xs) ≡ take i xs = take-take i n xs le in
    let back : drop i (take n xs) ≡ tail = ap (λ m. drop i (take m xs)) whole ∙ drop-take i k xs in
    take-set-lt (n + 1) (copy_within xs i n (i + 1)) i y (omega arith)
    ∙ ap (λ ys. set ys i y) (ap (λ m. take m (copy_within xs i n (i + 1))) more ∙ moved)
    ∙ set-append_left (take (i + 1) xs) tail i y (omega (arith, length-take-le (i + 1) xs (omega arith)))
    ∙ ap (λ ys. ys ++ tail) written
    ∙ append_assoc (take i xs) (y ∷ []) tail
    ∙ sym (ap (λ ys. ys ++ y ∷ drop i (take n xs)) front ∙ ap (λ ys. take i xs ++ y ∷ ys) back)
