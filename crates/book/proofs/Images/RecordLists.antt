-- Records of 24 bytes in a list of bytes.
use Rattle.std.proofs.Common.{◌≡◌, ℕ, zero, suc, ◌+◌, ◌*◌, ◌≤◌, List, [], ◌∷◌, ◌++◌, ◌∙◌, map, length, take, drop, sym, refl, ap, arith}
use Rattle.std.specs.List.{All, range_with_len, flat_map}
use Rattle.std.proofs.lemmas.List.{append_assoc, drop-drop, drop_at, take_at, take-append-drop, length-append, length-take-le}
use Rattle.std.proofs.lemmas.List.Elements.{All-head, All-tail, All-take}
use Rattle.std.proofs.Math.Seq.{take-add, take-append-add}
use Rattle.book.specs.Images.{record_in}

-- the n records from number a on
abbrev pub records : ℕ → ℕ → List ℕ → List (List ℕ)
records a n list = map (record_in list) (range_with_len a n)

-- the bytes of records
abbrev pub joined : List (List ℕ) → List ℕ
joined rs = flat_map (λ r. r) rs

-- records of 24 bytes each
abbrev pub AllWhole : List (List ℕ) → Type 0
AllWhole rs = All (λ r. length r ≡ 24) rs

-- how many bytes they are
pub length-joined : (rs : List (List ℕ)) → AllWhole rs → length (joined rs) ≡ 24 * length rs
length-joined [] whole = refl
length-joined (r ∷ rs) whole =
    let long : length r ≡ 24 = All-head (λ r. length r ≡ 24) r rs whole in
    omega (arith, length-append r (joined rs), length-joined rs (All-tail (λ r. length r ≡ 24) r rs whole))

-- the offset of the next record
next_offset : (a : ℕ) (list : List ℕ) → drop (24 * (a + 1)) list ≡ drop 24 (drop (24 * a) list)
next_offset a list = let e : 24 * (a + 1) ≡ 24 * a + 24 = omega arith in ap (λ n. drop n list) e ∙ sym (drop-drop 24 (24 * a) list)

-- the bytes of the records of a list are its bytes there
joined-records : (a n : ℕ) (list : List ℕ) → joined (records a n list) ≡ take (24 * n) (drop (24 * a) list)
joined-records a zero list = refl
joined-records a (suc n) list =
    let e : 24 * suc n ≡ 24 + 24 * n = omega arith in
    ap (λ bs. take 24 (drop (24 * a) list) ++ bs) (joined-records (a + 1) n list ∙ ap (take (24 * n)) (next_offset a list))
    ∙ (sym (take-add 24 (24 * n) (drop (24 * a) list)) ∙ ap (λ m. take m (drop (24 * a) list)) (sym e))

-- where the bytes of records stand, the list has these records
records-joined : (a : ℕ) (list : List ℕ) (rs : List (List ℕ)) (rest : List ℕ) → AllWhole rs → drop (24 * a) list ≡ joined rs ++ rest → records a (length rs) list ≡ rs
records-joined a list [] rest whole e = refl
records-joined a list (r ∷ rs) rest whole e =
    let long : length r ≡ 24 = All-head (λ r. length r ≡ 24) r rs whole in
    let split : drop (24 * a) list ≡ r ++ (joined rs ++ rest) = e ∙ append_assoc r (joined rs) rest in
    let here : record_in list a ≡ r = ap (take 24) split ∙ take_at r (joined rs ++ rest) 24 long in
    let behind : drop (24 * (a + 1)) list ≡ joined rs ++ rest = next_offset a list ∙ (ap (drop 24) split ∙ drop_at r (joined rs ++ rest) 24 long) in
    let more = records-joined (a + 1) list rs rest (All-tail (λ r. length r ≡ 24) r rs whole) behind in
    λ i. here i ∷ more i

-- the bytes of the first k records
take-joined : (k : ℕ) (rs : List (List ℕ)) → AllWhole rs → take (24 * k) (joined rs) ≡ joined (take k rs)
take-joined zero rs whole = refl
take-joined (suc k) [] whole = let e : 24 * suc k ≡ suc (23 + 24 * k) = omega arith in ap (λ m. take m []) e
take-joined (suc k) (r ∷ rs) whole =
    let long : length r ≡ 24 = All-head (λ r. length r ≡ 24) r rs whole in
    let e : 24 * suc k ≡ length r + 24 * k = omega arith in
    ap (λ m. take m (r ++ joined rs)) e ∙ (take-append-add r (joined rs) (24 * k) ∙ ap (λ bs. r ++ bs) (take-joined k rs (All-tail (λ r. length r ≡ 24) r rs whole)))

-- a list that begins with the bytes of the first k of some records has these records
pub begins_records : (k : ℕ) (list : List ℕ) (rs : List (List ℕ)) → AllWhole rs → k ≤ length rs → take (24 * k) list ≡ take (24 * k) (joined rs) → records 0 k list ≡ take k rs
begins_records k list rs whole le e =
    let same : list ≡ joined (take k rs) ++ drop (24 * k) list = sym (take-append-drop (24 * k) list) ∙ ap (λ bs. bs ++ drop (24 * k) list) (e ∙ take-joined k rs whole) in
    let long : length (take k rs) ≡ k = length-take-le k rs le in
    ap (λ n. records 0 n list) (sym long) ∙ records-joined 0 list (take k rs) (drop (24 * k) list) (All-take (λ r. length r ≡ 24) k rs whole) same

-- and the other way round
pub records_begin : (k : ℕ) (list : List ℕ) (rs : List (List ℕ)) → AllWhole rs → records 0 k list ≡ take k rs → take (24 * k) list ≡ take (24 * k) (joined rs)
records_begin k list rs whole e = sym (joined-records 0 k list) ∙ (ap joined e ∙ sym (take-joined k rs whole))
