-- Facts on labels.
use Rattle.std.proofs.Common.{◌≡◌, ℕ, ◌-◌, ◌<◌, ◌≤◌, Bool, true, eqb, List, reverse, length, get_or, sym, ap, ◌∙◌, ⊎_elim, arith}
use Rattle.std.specs.List.{suffix_len}
use Rattle.std.proofs.lemmas.List.{length-take-le, get_or-take, get_or-reverse, ext_get_or}
use Rattle.std.proofs.lemmas.List.Sums.{suffix_len-le-length, prefix_len_passes}
use Rattle.std.proofs.lemmas.Bool.{eqb-true, cases_lt}
use Rattle.std.proofs.lemmas.Bool.Decides.{nat_tests}
use Rattle.layout.specs.Label.{trimmed_label, is_all_printable, is_label}

pub label_is : (l : List ℕ) (b : Bool) → length l ≡ 6 → is_all_printable l ≡ b → is_label l ≡ b
label_is l b e p = grind (arith, nat_tests)

-- what the test of a label says
pub label_parts : (l : List ℕ) → is_label l ≡ true → (length l ≡ 6) × (is_all_printable l ≡ true)
label_parts l e = (grind (arith, nat_tests), grind (arith, nat_tests))

-- what is trimmed off is spaces
pub trimmed_off : (l : List ℕ) (i : ℕ) → length (trimmed_label l) ≤ i → i < length l → get_or l i 0 ≡ 0x20
trimmed_off l i h k =
    let n = suffix_len (eqb 0x20) l in
    let le = suffix_len-le-length (eqb 0x20) l in
    let lt = length-take-le (length l - n) l (omega arith) in
    let j = length l - 1 - i in
    let yes = prefix_len_passes (eqb 0x20) (reverse l) j 0 (omega arith) in
    let back = get_or-reverse l j 0 (omega arith) in
    let at : length l - 1 - j ≡ i = omega arith in
    ap (λ m. get_or l m 0) (sym at) ∙ sym back ∙ sym (eqb-true 0x20 (get_or (reverse l) j 0) yes)

pub get_or-trimmed_label : (l : List ℕ) (i : ℕ) → i < length (trimmed_label l) → get_or (trimmed_label l) i 0 ≡ get_or l i 0
get_or-trimmed_label l i h =
    let n = length l - suffix_len (eqb 0x20) l in
    let lt = length-take-le n l (omega arith) in
    get_or-take n l i 0 (omega arith)

-- labels of one length that are trimmed to the same are the same
pub same_from_trimmed : (l m : List ℕ) → length l ≡ length m → trimmed_label l ≡ trimmed_label m → l ≡ m
same_from_trimmed l m e t =
    ext_get_or 0 l m e (λ i h.
    let lt = ap length t in
    ⊎_elim
    (λ (q : i < length (trimmed_label l)). sym (get_or-trimmed_label l i q) ∙ ap (λ x. get_or x i 0) t ∙ get_or-trimmed_label m i (omega arith))
    (λ (q : length (trimmed_label l) ≤ i). trimmed_off l i q h ∙ sym (trimmed_off m i (omega arith) (omega arith)))
    (cases_lt i (length (trimmed_label l))))
