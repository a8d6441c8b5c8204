-- A list that is written one by one.
use Rattle.std.proofs.Common.{◌≡◌, ℕ, ◌+◌, ◌<◌, List, [], ◌∷◌, ◌++◌, length, map, take, slice_set, slice_index_or, ap, sym, ◌∙◌, arith}
use Rattle.std.proofs.lemmas.List.{take_more, take_more_set, map_push}

-- one more is written, which `f` makes that of the other list
pub one_written : {A B : Type 0} (f : A → B) (xs : List A) (ys : List B) (k : ℕ) (x : A) (y : B) → length xs ≡ length ys → k < length ys
    → f x ≡ slice_index_or ys k y → map f (take k xs) ≡ take k ys → map f (take (k + 1) (slice_set xs k x)) ≡ take (k + 1) ys
one_written f xs ys k x y same in_list here before =
    let in_xs : k < length xs = omega (arith, same, in_list) in
    ap (map f) (take_more_set xs k x in_xs) ∙ (map_push f (take k xs) x ∙ (ap (λ l. l ++ f x ∷ []) before
    ∙ (ap (λ e. take k ys ++ e ∷ []) here ∙ sym (take_more ys k y in_list))))
