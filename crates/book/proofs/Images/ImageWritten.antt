-- The records of a book by their indices, and a list into which they are written one after another.
use Rattle.std.proofs.Common.{◌≡◌, ℕ, zero, suc, ◌+◌, ◌-◌, ◌*◌, ◌<◌, ◌≤◌, List, [], ◌∷◌, ◌++◌, ◌∙◌, map, length, take, drop, get_or, replicate, sym, refl, ap, subst, below_more, arith}
use Rattle.std.proofs.lemmas.List.{append-nil, append_assoc, take_more, take_all, take_at, drop_at, drop-drop, length-take-le}
use Rattle.std.proofs.lemmas.List.Concat.{flat_map-append}
use Rattle.std.proofs.lemmas.List.Elements.{All-take}
use borrow.Rule.Slice.PartMut.{put_mid}
use Rattle.layout.specs.declared.job.Job.{Job}
use Rattle.book.specs.Book.{View, IsLawful}
use Rattle.book.specs.Images.{job_record, blank_record, image_records, image}
use Rattle.book.specs.Loads.{IsSizedAt, LoadsBack}
use Rattle.book.proofs.Images.RecordLists.{joined, AllWhole, length-joined}
use Rattle.book.proofs.Images.AcceptedImages.{records_whole, length-image_records, loads_back}

-- the records of the indices: those of the jobs, then blank ones
pub record_at : (js : List Job) (n i : ℕ) → get_or (map job_record js) i blank_record ≡ get_or (map job_record js ++ replicate n blank_record) i blank_record
record_at [] zero i = refl
record_at [] (suc n) zero = refl
record_at [] (suc n) (suc i) = record_at [] n i
record_at (j ∷ js) n zero = refl
record_at (j ∷ js) n (suc i) = record_at js n i

-- the bytes of the first n records
length-first : (n : ℕ) (rs : List (List ℕ)) → AllWhole rs → n ≤ length rs → length (joined (take n rs)) ≡ 24 * n
length-first n rs whole le = omega (arith, length-joined (take n rs) (All-take (λ r. length r ≡ 24) n rs whole), length-take-le n rs le)

joined_more : (n : ℕ) (rs : List (List ℕ)) (d : List ℕ) → n < length rs → joined (take (n + 1) rs) ≡ joined (take n rs) ++ get_or rs n d
joined_more n rs d lt =
    ap joined (take_more rs n d lt) ∙ flat_map-append (λ r. r) (take n rs) (get_or rs n d ∷ []) ∙ ap (λ bs. joined (take n rs) ++ bs) (append-nil (get_or rs n d))

-- the list after the first n records are written
abbrev pub begun : ℕ → View → List ℕ → List ℕ
begun n b list = joined (take n (image_records b)) ++ drop (24 * n) list

-- one record more
begun_more : (n at k : ℕ) (b : View) (list r : List ℕ) → length b.jobs ≤ 64 → n < 65 → at ≡ 24 * n → k ≡ 24 → r ≡ get_or (image_records b) n blank_record
    → put_mid at k (begun n b list) r ≡ begun (n + 1) b list
begun_more n at k b list r few lt index size is =
    let rs = image_records b in
    let front = joined (take n rs) in
    let back = drop (24 * n) list in
    let inside : n < length rs = omega (arith, length-image_records b few) in
    let long : length front ≡ 24 * n = length-first n rs (records_whole b) (omega arith) in
    let next : 24 * n + 24 ≡ 24 * (n + 1) = omega arith in
    let split : put_mid (24 * n) 24 (front ++ back) r ≡ front ++ (r ++ drop 24 back) = λ i. take_at front back (24 * n) long i ++ (r ++ drop 24 (drop_at front back (24 * n) long i)) in
    let behind : drop 24 back ≡ drop (24 * (n + 1)) list = drop-drop 24 (24 * n) list ∙ ap (λ m. drop m list) next in
    (λ i. put_mid (index i) (size i) (front ++ back) r) ∙ split ∙ ap (λ bs. front ++ (r ++ bs)) behind
    ∙ sym (append_assoc front r (drop (24 * (n + 1)) list))
    ∙ ap (λ bs. bs ++ drop (24 * (n + 1)) list) (ap (λ x. front ++ x) is ∙ sym (joined_more n rs blank_record inside))

-- that of an index
pub begun_place : (i at k : ℕ) (b : View) (list r : List ℕ) → length b.jobs ≤ 64 → i < 64 → at ≡ 24 * (1 + i) → k ≡ 24 → r ≡ get_or (map job_record b.jobs) i blank_record
    → put_mid at k (begun (1 + i) b list) r ≡ begun (1 + (i + 1)) b list
begun_place i at k b list r few lt index size is =
    let e : 1 + i ≡ suc i = omega arith in
    let next : 1 + i + 1 ≡ 1 + (i + 1) = omega arith in
    begun_more (1 + i) at k b list r few (omega arith) index size (is ∙ record_at b.jobs (64 - length b.jobs) i ∙ ap (λ m. get_or (image_records b) m blank_record) (sym e))
    ∙ ap (λ m. begun m b list) next

-- all are written
pub begun_all : (n : ℕ) (b : View) (list : List ℕ) → length b.jobs ≤ 64 → n ≡ 65 → begun n b list ≡ image b ++ drop 1560 list
begun_all n b list few all =
    ap (λ m. begun m b list) all ∙ ap (λ rs. joined rs ++ drop 1560 list) (take_all 65 (image_records b) (omega (arith, length-image_records b few)))

-- one index more holds a job of the code's sizes, if it holds one
pub sized_more : (js : List Job) (i : ℕ) → ((k : ℕ) → k < i → IsSizedAt k js) → IsSizedAt i js → (k : ℕ) → k < i + 1 → IsSizedAt k js
sized_more js i below here = below_more (λ k. IsSizedAt k js) i below here

-- what is written loads back
pub written_back : (b : View) (list after : List ℕ) (i : ℕ) → IsLawful b → 64 ≤ i → ((k : ℕ) → k < i → IsSizedAt k b.jobs) → after ≡ image b ++ drop 1560 list → LoadsBack after b
written_back b list after i lawful all sized is =
    subst (λ bs. LoadsBack bs b) (sym is) (loads_back b (drop 1560 list) lawful (λ k d lt. sized k (omega (arith, lawful.well_formed.few)) d lt))
