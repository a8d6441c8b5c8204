-- The search for a forbidden byte.
use Rattle.std.proofs.Common.{◌≡◌, ℕ, zero, suc, ◌+◌, ◌-◌, ◌<◌, not, List, [], ◌∷◌, length, drop, get_or, Some, refl, sym, arith}
use Rattle.std.specs.List.{find, range_with_len}
use Rattle.std.proofs.lemmas.List.{at_drop_all, at_drop_more}
use Rattle.std.proofs.lemmas.Bool.Decides.{nat_tests}
use Rattle.layout.specs.declared.kind.Kind.{Kind}
use Rattle.layout.specs.Layout.{is_allowed, first_forbidden}

-- a search among n indices from i on, which are the last ones
find_from : (k : Kind) (bs : List ℕ) (i n : ℕ) → i + n ≡ length bs → find (λ j. not (is_allowed k j (get_or bs j 0))) (range_with_len i n) ≡ first_forbidden k i (drop i bs)
find_from k bs i zero e = sym (at_drop_all (first_forbidden k i) bs i (omega arith))
find_from k bs i (suc n) e = let rest = find_from k bs (i + 1) n (omega arith) in let here = at_drop_more (first_forbidden k i) bs i 0 (omega arith) in grind (arith, nat_tests)

-- the index of the first forbidden byte, searched among the indices after 0
pub find_forbidden : (k : Kind) (bs : List ℕ) → find (λ j. not (is_allowed k j (get_or bs j 0))) (range_with_len 1 (length bs - 1)) ≡ first_forbidden k 1 (drop 1 bs)
find_forbidden k [] = refl
find_forbidden k (b ∷ bs) = find_from k (b ∷ bs) 1 (length (b ∷ bs) - 1) (omega arith)

-- the index of a forbidden byte is that of one of the bytes looked at
pub forbidden_within : (k : Kind) (i : ℕ) (bs : List ℕ) (j : ℕ) → Some j ≡ first_forbidden k i bs → j < i + length bs
forbidden_within k i [] j e = cc
forbidden_within k i (b ∷ bs) j e = let rest = forbidden_within k (i + 1) bs j in grind (arith, nat_tests, rest)
