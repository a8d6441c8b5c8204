-- What the records of a list say, as they are read one after another.
use Rattle.std.proofs.Common.{◌≡◌, ℕ, zero, suc, ◌+◌, ◌-◌, ◌*◌, ◌/◌, ◌<◌, ◌≤◌, Bool, true, false, not, if◌then◌else◌, nat_lt, inl, inr, List, [], ◌∷◌, ◌++◌, ◌∙◌, map, length, take, drop, get_or, Option, Result, Some, None, Ok, Err, is_some, sym, refl, ap, subst, arith, add-one}
use Rattle.std.specs.List.{position, range_with_len}
use Rattle.std.specs.Option.{option_map, option_or}
use Rattle.std.specs.Simd.{first_chunks}
use Rattle.std.specs.Str.{bytes_eq}
use Rattle.std.proofs.Math.Seq.{drop-cons}
use Rattle.std.proofs.lemmas.Bool.{cases_Bool, cond-true, cond-false}
use Rattle.std.proofs.lemmas.Bool.Decides.{nat_tests}
use Rattle.std.proofs.lemmas.List.{append_assoc, append-nil, drop-drop, length-append, length-take}
use Rattle.std.proofs.lemmas.List.FromFn.{take-map-range_with_len}
use Rattle.book.specs.Images.{top_in, now_in, blank_record, record_in, later_records, is_job_record, book_in, is_clock, is_next_job, first_not_blank, first_wrong_later, first_wrong, overload_record, load_fault, load_outcome}
use Rattle.layout.specs.declared.job.Job.{Job}
use Rattle.book.specs.declared.fault.BookFault.{BookFault}
use Rattle.book.specs.declared.fault.BookFault.TheVariants.{Short, Image}
use Rattle.book.specs.Book.{View, IsWellFormed, IsLawful}
use Rattle.book.specs.Calls.{first_overload_of, overload_fault_at, overload_fault, plain_outcome}
use Rattle.layout.specs.Jobs.{job_in}
use Rattle.book.specs.Loads.{OnlyImages}
use Rattle.book.specs.Reading.{leading_jobs}
use Rattle.book.specs.Outcomes.{Outcome, ok_unless}
use Rattle.book.proofs.Images.AcceptedImages.{only_images}
use Rattle.book.proofs.Images.BookSaid.{jobs_of, jobs_of_more, jobs_of_none, first_blank, next_job_parts, wellformed_in, lawful_from}

-- what a test answers
pub some_if : {A : Type 0} (b : Bool) (x y : A) → Some y ≡ (if b then Some x else None) → (b ≡ true) × (y ≡ x)
some_if b x y e = elim (cases_Bool b) [
  | inl t ↦ (t, let s : Some y ≡ Some x = e ∙ cond-true b (Some x) None t in cc)
  | inr f ↦ absurd (let s : Some y ≡ None = e ∙ cond-false b (Some x) None f in cc)
]

pub none_if : {A : Type 0} (b : Bool) (x : A) → None ≡ (if b then Some x else None) → b ≡ false
none_if b x e = elim (cases_Bool b) [
  | inl t ↦ absurd (let s : None ≡ Some x = e ∙ cond-true b (Some x) None t in cc)
  | inr f ↦ f
]

-- the next record is that of a next job, or is not
module _ (now i : ℕ) (js : List Job) (rs : List (List ℕ)) (lt : i < length rs) where
  pub one_more : (d : List ℕ) → is_next_job now js (get_or rs i d) ≡ true → leading_jobs now js (drop i rs) ≡ leading_jobs now (js ++ (job_in (get_or rs i d) ∷ [])) (drop (i + 1) rs)
  one_more d e =
      ap (leading_jobs now js) (drop-cons rs i d lt)
      ∙ cond-true (is_next_job now js (get_or rs i d)) (leading_jobs now (js ++ (job_in (get_or rs i d) ∷ [])) (drop (suc i) rs)) js e
      ∙ ap (λ n. leading_jobs now (js ++ (job_in (get_or rs i d) ∷ [])) (drop n rs)) (sym (add-one i))

  pub no_more : (d : List ℕ) → is_next_job now js (get_or rs i d) ≡ false → leading_jobs now js (drop i rs) ≡ js
  no_more d e =
      ap (leading_jobs now js) (drop-cons rs i d lt)
      ∙ cond-false (is_next_job now js (get_or rs i d)) (leading_jobs now (js ++ (job_in (get_or rs i d) ∷ [])) (drop (suc i) rs)) js e

-- how many records are leading jobs, and that the first wrong one is the first after them that is not blank
pub record Leading (now k : ℕ) (before : List Job) (rs : List (List ℕ)) : Type 0 where
  pub count : ℕ
  pub within : count ≤ length rs
  pub jobs : length (leading_jobs now before rs) ≡ length before + count
  pub wrong : first_wrong_later now before k rs ≡ first_not_blank (k + count) (drop count rs)

leading : (now k : ℕ) (before : List Job) (rs : List (List ℕ)) → Leading now k before rs
leading now k before [] = record { count = 0; within = omega arith; jobs = omega arith; wrong = refl }
leading now k before (r ∷ rs) =
    let more = before ++ (job_in r ∷ []) in
    elim (cases_Bool (is_next_job now before r)) [
      | inl t ↦
          let g = leading now (k + 1) more rs in
          let next : k + 1 + g.count ≡ k + suc g.count = omega arith in
          record {
            count = suc g.count;
            within = omega (arith, g.within);
            jobs = ap length (cond-true (is_next_job now before r) (leading_jobs now more rs) before t) ∙ omega (arith, g.jobs, length-append before (job_in r ∷ []));
            wrong = cond-true (is_next_job now before r) (first_wrong_later now more (k + 1) rs) (first_not_blank k (r ∷ rs)) t ∙ (g.wrong ∙ ap (λ n. first_not_blank n (drop g.count rs)) next);
          }
      | inr f ↦ record {
        count = 0;
        within = omega arith;
        jobs = ap length (cond-false (is_next_job now before r) (leading_jobs now more rs) before f) ∙ omega arith;
        wrong = cond-false (is_next_job now before r) (first_wrong_later now more (k + 1) rs) (first_not_blank k (r ∷ rs)) f ∙ ap (λ n. first_not_blank n (r ∷ rs)) (omega arith);
      }
    ]

-- where none is wrong, the leading jobs are all that are said
pub all_leading : (now k : ℕ) (before : List Job) (rs : List (List ℕ)) → first_wrong_later now before k rs ≡ None → leading_jobs now before rs ≡ before ++ jobs_of rs
all_leading now k before [] e = sym (append-nil before)
all_leading now k before (r ∷ rs) e =
    let more = before ++ (job_in r ∷ []) in
    elim (cases_Bool (is_next_job now before r)) [
      | inl t ↦
          let parts = next_job_parts now before r t in
          let kind : is_job_record r ≡ true = ap is_job_record parts.0 in
          let rest : first_wrong_later now more (k + 1) rs ≡ None = sym (cond-true (is_next_job now before r) (first_wrong_later now more (k + 1) rs) (first_not_blank k (r ∷ rs)) t) ∙ e in
          cond-true (is_next_job now before r) (leading_jobs now more rs) before t
          ∙ all_leading now (k + 1) more rs rest
          ∙ append_assoc before (job_in r ∷ []) (jobs_of rs) ∙ ap (λ js. before ++ js) (sym (jobs_of_more r rs kind))
      | inr f ↦
          let rest : first_not_blank k (r ∷ rs) ≡ None = sym (cond-false (is_next_job now before r) (first_wrong_later now more (k + 1) rs) (first_not_blank k (r ∷ rs)) f) ∙ e in
          let kind : is_job_record r ≡ false = ap is_job_record (first_blank k r rs rest) in
          cond-false (is_next_job now before r) (leading_jobs now more rs) before f
          ∙ sym (append-nil before) ∙ ap (λ js. before ++ js) (sym (jobs_of_none r rs kind))
    ]

-- what is said of the records after the first, by the first that is not blank after the leading jobs
module _ (now count : ℕ) (rs : List (List ℕ)) (counted : count ≡ length (leading_jobs now [] rs)) where
  pub count_within : count ≤ length rs
  count_within = let g = leading now 1 [] rs in omega (arith, g.within, g.jobs)

  wrong_at : first_wrong_later now [] 1 rs ≡ first_not_blank (1 + count) (drop count rs)
  wrong_at =
      let g = leading now 1 [] rs in
      let same : g.count ≡ count = omega (arith, g.jobs) in
      g.wrong ∙ ap (λ n. first_not_blank (1 + n) (drop n rs)) same

  pub rest_blank : position (λ r. not (bytes_eq r blank_record)) (drop count rs) ≡ None → Ok (leading_jobs now [] rs) ≡ ok_unless (option_map Image (first_wrong_later now [] 1 rs)) (jobs_of rs)
  rest_blank e =
      let none : first_wrong_later now [] 1 rs ≡ None = wrong_at ∙ ap (option_map (λ i. 1 + count + i)) e in
      ap Ok (all_leading now 1 [] rs none) ∙ ap (λ o. ok_unless (option_map Image o) (jobs_of rs)) (sym none)

  pub rest_wrong : (i : ℕ) → position (λ r. not (bytes_eq r blank_record)) (drop count rs) ≡ Some i → Err (Image (1 + count + i)) ≡ ok_unless (option_map Image (first_wrong_later now [] 1 rs)) (jobs_of rs)
  rest_wrong i e =
      let some : first_wrong_later now [] 1 rs ≡ Some (1 + count + i) = wrong_at ∙ ap (option_map (λ i. 1 + count + i)) e in
      ap (λ o. ok_unless (option_map Image o) (jobs_of rs)) (sym some)

-- of the records of a list, the 64 after the first
abbrev pub after_first : List (List ℕ) → List (List ℕ)
after_first rs = take 64 (drop 1 rs)

-- the records of a list as chunks
chunks_are : (a k : ℕ) (list : List ℕ) → first_chunks 24 k (drop (24 * a) list) ≡ map (record_in list) (range_with_len a k)
chunks_are a zero list = refl
chunks_are a (suc k) list =
    let next : 24 * a + 24 ≡ 24 * (a + 1) = omega arith in
    ap (λ rs. record_in list a ∷ rs) (ap (first_chunks 24 k) (drop-drop 24 (24 * a) list ∙ ap (λ n. drop n list) next) ∙ chunks_are (a + 1) k list)

module _ (n : ℕ) (list : List ℕ) (enough : 65 ≤ n) where
  -- the first, and those after it
  pub first_is : (d : List ℕ) → get_or (first_chunks 24 n list) 0 d ≡ record_in list 0
  first_is d =
      let m : n ≡ suc (n - 1) = omega arith in
      ap (λ rs. get_or rs 0 d) (chunks_are 0 n list ∙ ap (λ k. map (record_in list) (range_with_len 0 k)) m)

  pub later_are : after_first (first_chunks 24 n list) ≡ later_records list
  later_are =
      let m : n ≡ suc (n - 1) = omega arith in
      ap after_first (chunks_are 0 n list ∙ ap (λ k. map (record_in list) (range_with_len 0 k)) m)
      ∙ take-map-range_with_len (record_in list) 1 (n - 1) 64 (omega arith)

-- what is read, by what is said of it
fault_only : {A : Type 0} (o : Option BookFault) (fault : BookFault) (x : A) → Err fault ≡ ok_unless o x → o ≡ Some fault
fault_only None fault x e = cc
fault_only (Some f) fault x e = cc

read_only : {A : Type 0} (o : Option BookFault) (x y : A) → Ok x ≡ ok_unless o y → (o ≡ None) × (x ≡ y)
read_only None x y e = (refl, cc)
read_only (Some f) x y e = cc

no_number : (o : Option ℕ) → option_map Image o ≡ None → o ≡ None
no_number None e = refl
no_number (Some k) e = cc

-- a record that is wrong comes before any overload
wrong_first : (w o : Option ℕ) (fault : BookFault) → option_map Image w ≡ Some fault → option_map Image (option_or w o) ≡ Some fault
wrong_first None o fault e = cc
wrong_first (Some k) o fault e = e

-- an overload is found, or none
overload_some : (b : View) (o : Option (ℕ × ℕ)) → is_some (option_map (overload_fault_at b) o) ≡ true → option_map {U = ℕ} (λ ab. 65) o ≡ Some 65
overload_some b None e = cc
overload_some b (Some ab) e = refl

overload_none : (b : View) (o : Option (ℕ × ℕ)) → is_some (option_map (overload_fault_at b) o) ≡ false → o ≡ None
overload_none b None e = refl
overload_none b (Some ab) e = cc

-- what is read of a list
abbrev pub reading : List ℕ → Result View BookFault
reading list = ok_unless (load_fault list) (book_in list)

pub read_short : (list : List ℕ) → length list < 1560 → Err (Short 1560) ≡ reading list
read_short list h = let short : nat_lt (length list) 1560 ≡ true = grind (arith, nat_tests) in rw short refl

-- that is, if it is long enough
read_by : (list : List ℕ) → 1560 ≤ length list → reading list ≡ ok_unless (option_map Image (option_or (first_wrong list) (overload_record (book_in list)))) (book_in list)
read_by list long = let enough : nat_lt (length list) 1560 ≡ false = grind (arith, nat_tests) in rw enough refl

-- the answers of a test of the first record
abbrev pub clock_answer : List ℕ → Option (ℕ × ℕ)
clock_answer r = if is_clock r then Some (now_in r, top_in r) else None

-- the answer for records after it
abbrev pub jobs_answer : ℕ → List (List ℕ) → Result (List Job) BookFault
jobs_answer now rs = ok_unless (option_map Image (first_wrong_later now [] 1 rs)) (jobs_of rs)

-- the book of a now, a top and jobs
abbrev pub book_with : ℕ → ℕ → List Job → View
book_with now top js = record { now = now; top = top; jobs = js }

-- a list that is long enough, cut into records
module _ (list : List ℕ) (long : 1560 ≤ length list) (rs : List (List ℕ)) (cut : rs ≡ first_chunks 24 (length list / 24) list) where
  first_record : get_or rs 0 [] ≡ record_in list 0
  first_record = ap (λ rs. get_or rs 0 []) cut ∙ first_is (length list / 24) list (omega arith) []

  later : after_first rs ≡ later_records list
  later = ap after_first cut ∙ later_are (length list / 24) list (omega arith)

  pub few_records : length (after_first rs) ≤ 64
  few_records = omega (arith, length-take 64 (drop 1 rs))

  pub read_no_clock : None ≡ clock_answer (get_or rs 0 []) → Err (Image 0) ≡ reading list
  read_no_clock e =
      let no : is_clock (record_in list 0) ≡ false = subst (λ r. is_clock r ≡ false) first_record (none_if (is_clock (get_or rs 0 [])) (now_in (get_or rs 0 []), top_in (get_or rs 0 [])) e) in
      let wrong : first_wrong list ≡ Some 0 = cond-false (is_clock (record_in list 0)) (first_wrong_later (now_in (record_in list 0)) [] 1 (later_records list)) (Some 0) no in
      sym (read_by list long ∙ ap (λ o. ok_unless (option_map Image (option_or o (overload_record (book_in list)))) (book_in list)) wrong)

  module _ (now top : ℕ) (said : Some (now, top) ≡ clock_answer (get_or rs 0 [])) where
    clock : (is_clock (record_in list 0) ≡ true) × (◌≡◌ {A = ℕ × ℕ} (now, top) (now_in (record_in list 0), top_in (record_in list 0)))
    clock = some_if (is_clock (record_in list 0)) (now_in (record_in list 0), top_in (record_in list 0)) (now, top) (said ∙ ap clock_answer first_record)

    wrong_by : first_wrong list ≡ first_wrong_later now [] 1 (after_first rs)
    wrong_by =
        cond-true (is_clock (record_in list 0)) (first_wrong_later (now_in (record_in list 0)) [] 1 (later_records list)) (Some 0) clock.0
        ∙ (λ i. first_wrong_later (sym clock.1 i).0 [] 1 (sym later i))

    pub read_wrong : (fault : BookFault) → Err fault ≡ jobs_answer now (after_first rs) → Err fault ≡ reading list
    read_wrong fault e =
        let some = fault_only (option_map Image (first_wrong_later now [] 1 (after_first rs))) fault (jobs_of (after_first rs)) e in
        let first = wrong_first (first_wrong list) (overload_record (book_in list)) fault (ap (option_map Image) wrong_by ∙ some) in
        sym (read_by list long ∙ ap (λ o. ok_unless o (book_in list)) first)

    module _ (js : List Job) (read : Ok js ≡ jobs_answer now (after_first rs)) where
      -- then no record is wrong, and the book is that of the image
      sound : (option_map Image (first_wrong_later now [] 1 (after_first rs)) ≡ None) × (js ≡ jobs_of (after_first rs))
      sound = read_only (option_map Image (first_wrong_later now [] 1 (after_first rs))) js (jobs_of (after_first rs)) read

      none_wrong : first_wrong list ≡ None
      none_wrong = wrong_by ∙ no_number (first_wrong_later now [] 1 (after_first rs)) sound.0

      same : book_with now top js ≡ book_in list
      same = let jobs : js ≡ jobs_of (later_records list) = sound.1 ∙ ap jobs_of later in λ i. record { now = (clock.1 i).0; top = (clock.1 i).1; jobs = jobs i }

      pub well_formed_read : IsWellFormed (book_with now top js)
      well_formed_read = subst IsWellFormed (sym same) (wellformed_in list none_wrong)

      by_overload : reading list ≡ ok_unless (option_map Image (overload_record (book_with now top js))) (book_with now top js)
      by_overload =
          read_by list long ∙ ap (λ o. ok_unless (option_map Image (option_or o (overload_record (book_in list)))) (book_in list)) none_wrong
          ∙ ap (λ b. ok_unless (option_map Image (overload_record b)) b) (sym same)

      pub read_overload : is_some (overload_fault (book_with now top js)) ≡ true → Err (Image 65) ≡ reading list
      read_overload e =
          let b = book_with now top js in
          sym (by_overload ∙ ap (λ o. ok_unless (option_map Image o) b) (overload_some b (first_overload_of b) e))

      pub read_book : is_some (overload_fault (book_with now top js)) ≡ false → Ok (book_with now top js) ≡ reading list
      read_book e =
          let b = book_with now top js in
          sym (by_overload ∙ ap (λ o. ok_unless (option_map Image (option_map (λ ab. 65) o)) b) (overload_none b (first_overload_of b) e))

      pub lawful_read : is_some (overload_fault (book_with now top js)) ≡ false → IsLawful (book_with now top js)
      lawful_read e = let b = book_with now top js in lawful_from b well_formed_read (overload_none b (first_overload_of b) e)

-- what load answers and leaves, by what it reads
pub load_refused : (b : View) (list : List ℕ) (fault : BookFault) → Err fault ≡ reading list → load_outcome b list ≡ record { answer = Err fault; book = b; list = tt }
load_refused b list fault e = ap (λ o. plain_outcome o b (book_in list)) (fault_only (load_fault list) fault (book_in list) e)

pub load_accepted : (b after : View) (list : List ℕ) → Ok after ≡ reading list → load_outcome b list ≡ record { answer = Ok tt; book = after; list = tt }
load_accepted b after list e =
    let read = read_only (load_fault list) after (book_in list) e in
    ap (λ o. plain_outcome o b (book_in list)) read.0 ∙ ap (λ (v : View). record { answer = Ok tt; book = v; list = tt }) (sym read.1)

-- and what that tells of the list
pub only_loaded : (b : View) (list : List ℕ) (answer : Result (Unit {0}) BookFault) (after : View) → 1560 ≤ length list → load_outcome b list ≡ record { answer = answer; book = after; list = tt } → OnlyImages list answer after
only_loaded b list answer after long e = subst (λ (o : Outcome (Unit {0}) BookFault (Unit {0})). OnlyImages list o.answer o.book) e (only_images b list long)
