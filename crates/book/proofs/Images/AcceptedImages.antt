-- Loading accepts the images of lawful books, and no others.
use Rattle.std.proofs.Common.{◌≡◌, ℕ, suc, ◌+◌, ◌-◌, ◌*◌, ◌<◌, ◌≤◌, Bool, true, false, ◌&&◌, cond, List, [], ◌∷◌, ◌++◌, ◌∙◌, map, length, take, replicate, Option, Some, None, sym, refl, ap, subst, nat_le, nat_lt, arith}
use Rattle.std.specs.List.{All}
use Rattle.std.specs.Option.{option_map, option_or}
use Rattle.std.proofs.lemmas.Bool.{and_from, cond-true, cond-false, both_ways, le-ltb}
use Rattle.std.proofs.lemmas.Bool.Decides.{nat_tests}
use Rattle.std.proofs.lemmas.List.{take_all, take_at, take-replicate, length-take, length-map, length-append, length-take-le, length-replicate}
use Rattle.std.proofs.lemmas.List.Elements.{All-nil, All-cons, All-append, All-map, All-replicate}
use Rattle.std.proofs.lemmas.List.FromFn.{take-map-range_with_len, length-map-range_with_len}
use Rattle.std.proofs.Math.Seq.{take-append-add}
use Rattle.std.proofs.lemmas.Slice.Eq.{bytes_eq-Decides}
use Rattle.schedule.specs.InForce.{horizon}
use Rattle.schedule.specs.Overload.{Searched}
use Rattle.book.specs.Lists.{short_fault}
use Rattle.book.specs.Images.{top_in, now_in, is_clock, book_in, first_wrong, load_fault, load_outcome, clock_record, image, image_records, record_in, later_records, job_record, blank_record, first_wrong_later}
use Rattle.layout.proofs.BigEndian.{number-bytes}
use Rattle.layout.specs.declared.job.Job.{Job}
use Rattle.book.specs.declared.fault.BookFault.TheVariants.{Short, Image}
use Rattle.book.specs.Demands.{demands}
use Rattle.book.specs.Book.{View, IsWellFormed, IsLawful, empty_book}
use Rattle.book.specs.Calls.{plain_outcome, first_overload_of}
use Rattle.layout.specs.Jobs.{IsSized}
use Rattle.book.specs.Loads.{AreSized, Shows, CanBegin, IsFirstWrong, OnlyImages, LoadsBack}
use Rattle.book.proofs.Images.RecordLists.{records, AllWhole, length-joined, begins_records, records_begin}
use Rattle.book.proofs.Images.FirstWrongRecord.{later_of, within, never_wrong, none_wrong, jobs_back, begins, shows_all}
use Rattle.book.proofs.Images.BookSaid.{Standing, jobs_of, book_of, searched, none_standing, clock_parts, wellformed_jobs, wellformed_in, lawful_from}

-- all records of a book are whole
pub records_whole : (b : View) → AllWhole (image_records b)
records_whole b =
    let n = 64 - length b.jobs in
    All-cons (λ r. length r ≡ 24) (clock_record b.now b.top) (later_of b.jobs n) refl
    (All-append (λ r. length r ≡ 24) (map job_record b.jobs) (replicate n blank_record) (All-map (λ r. length r ≡ 24) job_record b.jobs (λ k d lt. refl)) (All-replicate (λ r. length r ≡ 24) n blank_record refl))

-- how many records and bytes there are
length-later_of : (js : List Job) (n : ℕ) → length (later_of js n) ≡ length js + n
length-later_of js n = length-append (map job_record js) (replicate n blank_record) ∙ (λ i. length-map js job_record i + length-replicate n blank_record i)

pub length-image_records : (b : View) → length b.jobs ≤ 64 → length (image_records b) ≡ 65
length-image_records b few = omega (arith, length-later_of b.jobs (64 - length b.jobs))

length-image : (b : View) → length b.jobs ≤ 64 → length (image b) ≡ 1560
length-image b few = omega (arith, length-joined (image_records b) (records_whole b), length-image_records b few)

-- the records of a list are those of the book
pub record Holds (list : List ℕ) (b : View) : Type 0 where
  pub clock : record_in list 0 ≡ clock_record b.now b.top
  pub later : later_records list ≡ later_of b.jobs (64 - length b.jobs)

-- the first i records after that of now and the top, of the records of a list
first_later : (i : ℕ) (list : List ℕ) → i ≤ 64 → take i (later_records list) ≡ records 1 i list
first_later i list le = take-map-range_with_len (record_in list) 1 64 i le

-- a list that begins like the image of a book begins with its records
begun_parts : (i : ℕ) (list : List ℕ) (b : View) → i ≤ 64 → length b.jobs ≤ 64 → take (24 * suc i) list ≡ take (24 * suc i) (image b)
    → (record_in list 0 ≡ clock_record b.now b.top) × (take i (later_records list) ≡ take i (later_of b.jobs (64 - length b.jobs)))
begun_parts i list b le few e =
    let all : record_in list 0 ∷ records 1 i list ≡ clock_record b.now b.top ∷ take i (later_of b.jobs (64 - length b.jobs)) = begins_records (suc i) list (image_records b) (records_whole b) (omega (arith, length-image_records b few)) e in
    let tails : records 1 i list ≡ take i (later_of b.jobs (64 - length b.jobs)) = cc in
    (cc, first_later i list le ∙ tails)

-- and the other way round
begun_from_parts : (i : ℕ) (list : List ℕ) (b : View) → i ≤ 64 → record_in list 0 ≡ clock_record b.now b.top → take i (later_records list) ≡ take i (later_of b.jobs (64 - length b.jobs))
    → take (24 * suc i) list ≡ take (24 * suc i) (image b)
begun_from_parts i list b le clock later =
    let tails : records 1 i list ≡ take i (later_of b.jobs (64 - length b.jobs)) = sym (first_later i list le) ∙ later in
    records_begin (suc i) list (image_records b) (records_whole b) (λ i. clock i ∷ tails i)

-- all of them
take_later : (list : List ℕ) → take 64 (later_records list) ≡ later_records list
take_later list = first_later 64 list (omega arith)

take_later_of : (b : View) → length b.jobs ≤ 64 → take 64 (later_of b.jobs (64 - length b.jobs)) ≡ later_of b.jobs (64 - length b.jobs)
take_later_of b few = take_all 64 (later_of b.jobs (64 - length b.jobs)) (omega (arith, length-later_of b.jobs (64 - length b.jobs)))

take_image : (b : View) → length b.jobs ≤ 64 → take 1560 (image b) ≡ image b
take_image b few = take_all 1560 (image b) (omega (arith, length-image b few))

-- the first bytes of a list are the image of a book just where its records are the book's
holds_from_shows : (list : List ℕ) (b : View) → length b.jobs ≤ 64 → Shows list b → Holds list b
holds_from_shows list b few e =
    let parts = begun_parts 64 list b (omega arith) few (e ∙ sym (take_image b few)) in
    record { clock = parts.0; later = sym (take_later list) ∙ (parts.1 ∙ take_later_of b few) }

shows_from_holds : (list : List ℕ) (b : View) → length b.jobs ≤ 64 → Holds list b → Shows list b
shows_from_holds list b few h = begun_from_parts 64 list b (omega arith) h.clock (take_later list ∙ (h.later ∙ sym (take_later_of b few))) ∙ take_image b few

-- the record of now and the top of a well-formed book
module _ (b : View) (w : IsWellFormed b) where
  now_back : now_in (clock_record b.now b.top) ≡ b.now
  now_back = number-bytes 6 b.now (omega (arith, w.in_time))

  top_back : top_in (clock_record b.now b.top) ≡ b.top
  top_back = number-bytes 2 b.top (omega (arith, w.top_within))

  clock_accepted : is_clock (clock_record b.now b.top) ≡ true
  clock_accepted =
      and_from _ _ ((bytes_eq-Decides (clock_record b.now b.top) (clock_record (now_in (clock_record b.now b.top)) (top_in (clock_record b.now b.top)))).1 (λ i. clock_record (sym now_back i) (sym top_back i)))
      (subst (λ t. (nat_le 1 t && nat_le t 255) ≡ true) (sym top_back) (grind (arith, nat_tests, w.top_positive, w.top_within)))

  standing : Standing b.now b.jobs
  standing = record { apart = w.tickets_differ; order = w.in_order; open_at = w.jobs_open }

  module _ (fit : AreSized b) where
    -- the records of such a book say the book
    book_back : (r : List ℕ) (rs : List (List ℕ)) (n : ℕ) → r ≡ clock_record b.now b.top → rs ≡ later_of b.jobs n → book_of r rs ≡ b
    book_back r rs n clock later =
        let now : now_in r ≡ b.now = ap now_in clock ∙ now_back in
        let top : top_in r ≡ b.top = ap top_in clock ∙ top_back in
        let jobs : jobs_of rs ≡ b.jobs = ap jobs_of later ∙ jobs_back b.now b.jobs n w.jobs_open fit in
        λ i. record { now = now i; top = top i; jobs = jobs i }

    -- and none of them is wrong
    accepted_records : (r : List ℕ) (rs : List (List ℕ)) (n : ℕ) → r ≡ clock_record b.now b.top → rs ≡ later_of b.jobs n → cond (is_clock r) (first_wrong_later (now_in r) [] 1 rs) (Some 0) ≡ None
    accepted_records r rs n clock later =
        let now : now_in r ≡ b.now = ap now_in clock ∙ now_back in
        cond-true (is_clock r) (first_wrong_later (now_in r) [] 1 rs) (Some 0) (ap is_clock clock ∙ clock_accepted)
        ∙ ((λ i. first_wrong_later (now i) [] 1 (later i)) ∙ none_wrong b.now [] b.jobs n 1 standing fit)

    book_shown : (list : List ℕ) → Shows list b → book_in list ≡ b
    book_shown list e = let h = holds_from_shows list b w.few e in book_back (record_in list 0) (later_records list) (64 - length b.jobs) h.clock h.later

    none_wrong_shown : (list : List ℕ) → Shows list b → first_wrong list ≡ None
    none_wrong_shown list e = let h = holds_from_shows list b w.few e in accepted_records (record_in list 0) (later_records list) (64 - length b.jobs) h.clock h.later

-- the search finds no overload in a lawful book
none_over : (b : View) → IsLawful b → first_overload_of b ≡ None
none_over b lawful = go (first_overload_of b) refl
  where
    go : (o : Option (ℕ × ℕ)) → first_overload_of b ≡ o → first_overload_of b ≡ None
    go None e = e
    go (Some xy) e = absurd ((subst (Searched horizon (demands b.now b.jobs) b.top) e (searched b lawful.well_formed)).1 lawful.none_overloaded)

-- the length of a list that is loaded
long_enough : (list : List ℕ) → 1560 ≤ length list → short_fault 1560 list ≡ None
long_enough list le = cond-false (nat_lt (length list) 1560) (Some (Short 1560)) None (le-ltb (length list) 1560 le)

length-shown : (list : List ℕ) (b : View) → length b.jobs ≤ 64 → Shows list b → 1560 ≤ length list
length-shown list b few e = omega (arith, ap length e, length-image b few, length-take 1560 list)

-- an image of a lawful book is loaded
loads : (list : List ℕ) (b : View) → IsLawful b → AreSized b → Shows list b → load_fault list ≡ None
loads list b lawful fit e =
    let w = lawful.well_formed in
    let long : short_fault 1560 list ≡ None = long_enough list (length-shown list b w.few e) in
    let none : first_wrong list ≡ None = none_wrong_shown b w fit list e in
    let over : first_overload_of (book_in list) ≡ None = ap first_overload_of (book_shown b w fit list e) ∙ none_over b lawful in
    λ i. option_or (long i) (option_map Image (option_or (none i) (option_map (λ ab. 65) (over i))))

-- so an image that is saved loads back
pub loads_back : (b : View) (rest : List ℕ) → IsLawful b → AreSized b → LoadsBack (image b ++ rest) b
loads_back b rest lawful fit =
    let w = lawful.well_formed in
    let shows : Shows (image b ++ rest) b = take_at (image b) rest 1560 (length-image b w.few) in
    let none = loads (image b ++ rest) b lawful fit shows in
    record {
      shows = shows;
      back = λ before. (ap (λ f. (plain_outcome f before (book_in (image b ++ rest))).answer) none, ap (λ f. (plain_outcome f before (book_in (image b ++ rest))).book) none ∙ book_shown b w fit (image b ++ rest) shows);
    }

-- records of which none is wrong are those of the book that they say
records_hold : (r : List ℕ) (rs : List (List ℕ)) → first_wrong_later (now_in r) [] 1 rs ≡ None → (rs ≡ later_of (jobs_of rs) (length rs - length (jobs_of rs))) × All IsSized (jobs_of rs)
records_hold r rs e =
    let s = shows_all (now_in r) [] 1 rs (none_standing (now_in r)) e in
    let same : s.jobs ≡ jobs_of rs = sym (ap jobs_of s.form ∙ jobs_back (now_in r) s.jobs (length rs - length s.jobs) s.standing.open_at s.fit) in
    (subst (λ js. rs ≡ later_of js (length rs - length js)) same s.form, subst (All IsSized) same s.fit)

length-later_records : (list : List ℕ) → length (later_records list) ≡ 64
length-later_records list = length-map-range_with_len (record_in list) 1 64

-- what a list shows in which none is wrong
shows_book : (list : List ℕ) → first_wrong list ≡ None → Shows list (book_in list) × AreSized (book_in list)
shows_book list e = go (is_clock (record_in list 0)) refl e
  where
    go : (t : Bool) → is_clock (record_in list 0) ≡ t → cond t (first_wrong_later (now_in (record_in list 0)) [] 1 (later_records list)) (Some 0) ≡ None → Shows list (book_in list) × AreSized (book_in list)
    go false t none = absurd (cc)
    go true t none =
        let w = wellformed_in list e in
        let hold = records_hold (record_in list 0) (later_records list) none in
        let later = hold.0 ∙ ap (λ n. later_of (jobs_of (later_records list)) (n - length (jobs_of (later_records list)))) (length-later_records list) in
        (shows_from_holds list (book_in list) w.few (record { clock = (clock_parts (record_in list 0) t).form; later = later }), hold.1)

-- the first i records of jobs and blank ones
take-later_of : (i n : ℕ) (js : List Job) → length js ≤ i → i ≤ length js + n → take i (later_of js n) ≡ later_of js (i - length js)
take-later_of i n js low high =
    let m = i - length js in
    let at : i ≡ length (map job_record js) + m = omega (arith, length-map js job_record) in
    ap (λ k. take k (later_of js n)) at ∙ (take-append-add (map job_record js) (replicate n blank_record) m ∙ ap (λ rs. map job_record js ++ rs) (take-replicate m n blank_record (omega arith)))

-- an empty book is well-formed
empty_wellformed : IsWellFormed (empty_book 0 1)
empty_wellformed =
    let s = none_standing 0 in
    record { in_time = omega arith; top_positive = omega arith; top_within = omega arith; few = omega arith; tickets_differ = s.apart; in_order = s.order; jobs_open = s.open_at }

-- the first record is the first wrong one where it is not that of a now and a top
wrong_clock : (list : List ℕ) → is_clock (record_in list 0) ≡ false → IsFirstWrong 0 list
wrong_clock list f = record {
  before = (empty_book 0 1, empty_wellformed, All-nil IsSized, refl);
  none_with = λ can.
      let parts = begun_parts 0 list can.0 (omega arith) can.1.few can.3 in
      both_ways (is_clock (record_in list 0)) f (ap is_clock parts.0 ∙ clock_accepted can.0 can.1);
}

-- a later one is where the search says so
wrong_at : (list : List ℕ) (i : ℕ) → i < 64 → is_clock (record_in list 0) ≡ true → first_wrong_later (now_in (record_in list 0)) [] 1 (later_records list) ≡ Some (1 + i) → IsFirstWrong (suc i) list
wrong_at list i lt t e = record { before = before; none_with = none_with }
  where
    before : CanBegin (suc i) list
    before =
        let r = record_in list 0 in
        let c = clock_parts r t in
        let s = begins (now_in r) [] 1 i (later_records list) (none_standing (now_in r)) e in
        let long : length (take i (later_records list)) ≡ i = length-take-le i (later_records list) (omega (arith, length-later_records list)) in
        let few : length s.jobs ≤ i = omega (arith, s.few, long) in
        let b : View = record { now = now_in r; top = top_in r; jobs = s.jobs } in
        let later = s.form ∙ (ap (λ n. later_of s.jobs (n - length s.jobs)) long ∙ sym (take-later_of i (64 - length s.jobs) s.jobs few (omega arith))) in
        (b, wellformed_jobs r s.jobs (omega arith) c s.standing, s.fit, begun_from_parts i list b (omega arith) c.form later)

    none_with : CanBegin (suc i + 1) list → ⊥
    none_with can =
        let b = can.0 in
        let e2 : suc i + 1 ≡ suc (suc i) = omega arith in
        let parts = begun_parts (suc i) list b (omega arith) can.1.few (subst (λ n. take (24 * n) list ≡ take (24 * n) (image b)) e2 can.3) in
        let now : now_in (record_in list 0) ≡ b.now = ap now_in parts.0 ∙ now_back b can.1 in
        never_wrong b.now [] b.jobs (64 - length b.jobs) 1 i (later_records list) (standing b can.1) can.2 parts.1 (ap (λ n. first_wrong_later n [] 1 (later_records list)) (sym now) ∙ e)

-- the record that is named is the first wrong one, and one of the 65
names_first_wrong : (list : List ℕ) (k : ℕ) → first_wrong list ≡ Some k → IsFirstWrong k list × (k < 65)
names_first_wrong list k e = go (is_clock (record_in list 0)) refl e
  where
    go : (t : Bool) → is_clock (record_in list 0) ≡ t → cond t (first_wrong_later (now_in (record_in list 0)) [] 1 (later_records list)) (Some 0) ≡ Some k → IsFirstWrong k list × (k < 65)
    go false t s = let same : 0 ≡ k = cc in (subst (λ n. IsFirstWrong n list) same (wrong_clock list t), omega arith)
    go true t s =
        let found = within (now_in (record_in list 0)) [] 1 (later_records list) k s in
        let i = found.0 in
        let low : i < 64 = omega (arith, found.1, length-later_records list) in
        let same : suc i ≡ k = omega (arith, found.2) in
        (subst (λ n. IsFirstWrong n list) same (wrong_at list i low t (s ∙ ap (λ x. Some x) (sym found.2))), omega arith)

-- what an answer of load tells
pub only_images : (before : View) (list : List ℕ) → 1560 ≤ length list → OnlyImages list (load_outcome before list).answer (load_outcome before list).book
only_images before list le = subst (λ f. OnlyImages list (plain_outcome f before (book_in list)).answer (plain_outcome f before (book_in list)).book) (sym fault_is) (go (first_wrong list) refl (first_overload_of (book_in list)) refl)
  where
    fault_is : load_fault list ≡ option_map Image (option_or (first_wrong list) (option_map (λ ab. 65) (first_overload_of (book_in list))))
    fault_is = ap (λ f. option_or f (option_map Image (option_or (first_wrong list) (option_map (λ ab. 65) (first_overload_of (book_in list)))))) (long_enough list le)

    none_over_shown : (b : View) → IsLawful b → AreSized b → Shows list b → first_overload_of (book_in list) ≡ None
    none_over_shown b l fit shows = ap first_overload_of (book_shown b l.well_formed fit list shows) ∙ none_over b l

    go : (w : Option ℕ) → first_wrong list ≡ w → (o : Option (ℕ × ℕ)) → first_overload_of (book_in list) ≡ o
        → OnlyImages list (plain_outcome (option_map Image (option_or w (option_map (λ ab. 65) o))) before (book_in list)).answer (plain_outcome (option_map Image (option_or w (option_map (λ ab. 65) o))) before (book_in list)).book
    go (Some n) e o s =
        let wrong = names_first_wrong list n e in
        record {
          accepted = (λ no. absurd (cc), λ can. absurd (let none = none_wrong_shown can.0 can.1.well_formed can.2 list can.3 in cc));
          same = λ b l fit shows. absurd (let none = none_wrong_shown b l.well_formed fit list shows in cc);
          named = λ k is lt. let same : n ≡ k = cc in subst (λ x. IsFirstWrong x list) same wrong.0;
          overloaded = λ is. let same : n ≡ 65 = cc in absurd (omega (arith, wrong.1));
          numbered = λ k is. let same : n ≡ k = cc in omega (arith, wrong.1);
        }
    go None e (Some xy) s =
        let w = wellformed_in list e in
        let shown = shows_book list e in
        record {
          accepted = (λ no. absurd (cc), λ can. absurd (let none = none_over_shown can.0 can.1 can.2 can.3 in cc));
          same = λ b l fit shows. absurd (let none = none_over_shown b l fit shows in cc);
          named = λ k is lt. let same : 65 ≡ k = cc in absurd (omega arith);
          overloaded = λ is. (book_in list, w, shown.1, shown.0, (subst (Searched horizon (demands (book_in list).now (book_in list).jobs) (book_in list).top) s (searched (book_in list) w)).1);
          numbered = λ k is. let same : 65 ≡ k = cc in omega arith;
        }
    go None e None s =
        let shown = shows_book list e in
        record {
          accepted = (λ _. (book_in list, lawful_from (book_in list) (wellformed_in list e) s, shown.1, shown.0), λ _. refl);
          same = λ b l fit shows. book_shown b l.well_formed fit list shows;
          named = λ k is lt. absurd (cc);
          overloaded = λ is. absurd (cc);
          numbered = λ k is. absurd (cc);
        }
