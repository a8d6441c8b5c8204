-- The records of an image, and the book that they say.
use Rattle.std.proofs.Common.{◌≡◌, ◌≢◌, ℕ, zero, suc, ◌+◌, ◌/◌, ◌%◌, ◌^◌, ◌<◌, ◌≤◌, Bool, true, false, not, ◌&&◌, cond, inl, inr, List, [], ◌∷◌, ◌++◌, ◌∙◌, map, length, Option, Some, None, Ok, sym, refl, ap, subst, pow-suc, arith}
use Rattle.std.specs.List.{All, AllPairs, list_all, position, take_while, prefix_len}
use Rattle.std.specs.Bool.{Decides}
use Rattle.std.specs.Option.{option_map, option_or}
use Rattle.std.specs.Str.{bytes_eq}
use Rattle.std.proofs.lemmas.Bool.{cases_Bool, and_parts, cond-true, cond-false, not-true}
use Rattle.std.proofs.lemmas.Bool.Decides.{nat_tests, Decides-by_and}
use Rattle.std.proofs.lemmas.List.{length-map, length-take, append_assoc, append-nil}
use Rattle.std.proofs.lemmas.List.Elements.{All-push}
use Rattle.std.proofs.lemmas.List.FromFn.{length-map-range_with_len}
use Rattle.std.proofs.lemmas.List.Quantifiers.{all_pairs_push}
use Rattle.std.proofs.lemmas.List.Sums.{take_while-cons}
use Rattle.std.proofs.lemmas.Slice.Eq.{bytes_eq-Decides}
use Rattle.schedule.specs.InForce.{horizon}
use Rattle.schedule.specs.Overload.{Searched}
use Rattle.schedule.proofs.Theory.{theory}
use Rattle.layout.specs.BigEndian.{number, bytes}
use Rattle.layout.proofs.BigEndian.{bytes_fit}
use Rattle.book.specs.Lists.{short_fault}
use Rattle.book.specs.Images.{top_in, now_in, clock_record, job_record, blank_record, record_in, later_records, is_job_record, book_in, can_be_open, is_clock, is_next_job, first_not_blank, first_wrong_later, first_wrong, overload_record, load_fault, load_outcome}
use Rattle.layout.specs.declared.job.Job.{Job}
use Rattle.book.specs.declared.fault.BookFault.TheVariants.{Image}
use Rattle.book.specs.Jobs.{is_before, is_ticket_open}
use Rattle.book.specs.Demands.{demands}
use Rattle.book.specs.Book.{View, IsOpenAt, IsInOrder, IsWellFormed, IsLawful}
use Rattle.book.specs.Calls.{plain_outcome, first_overload_of}
use Rattle.layout.specs.Jobs.{job_in}
use Rattle.book.proofs.DemandFacts.{sound-demands}
use Rattle.book.proofs.Offering.{others}

-- jobs that can be open together
pub record Standing (now : ℕ) (js : List Job) : Type 0 where
  pub apart : AllPairs (λ j k. j.ticket ≢ k.ticket) js
  pub order : IsInOrder js
  pub open_at : All (IsOpenAt now) js

-- a job that can be open besides others, and is served after them
pub record Follows (now : ℕ) (before : List Job) (j : Job) : Type 0 where
  pub open_at : IsOpenAt now j
  pub after : All (λ k. is_before k j ≡ true) before
  pub closed : is_ticket_open j.ticket before ≡ false

-- the test of a job that can be open
pub open_from_test : (now : ℕ) (j : Job) → can_be_open now j ≡ true → IsOpenAt now j
open_from_test now j e = record {
  some_ticket = grind (arith, nat_tests);
  work_left = grind (arith, nat_tests);
  not_due = grind (arith, nat_tests);
  in_sight = grind (arith, nat_tests);
  in_time = grind (arith, nat_tests);
  some_window = grind (arith, nat_tests);
  short_window = grind (arith, nat_tests);
}

-- the test that all jobs are served before one
pub all_before : (j : Job) (before : List Job) → Decides (list_all (λ k. is_before k j) before) (All (λ k. is_before k j ≡ true) before)
all_before j before = Decides-by_and (λ k. is_before k j) (λ k. is_before k j ≡ true) (list_all (λ k. is_before k j)) (λ k. (λ e. e, λ e. e)) refl (λ _ _. refl) before

-- what the record of a next job says
pub next_job_parts : (now : ℕ) (before : List Job) (r : List ℕ) → is_next_job now before r ≡ true → (r ≡ job_record (job_in r)) × Follows now before (job_in r)
next_job_parts now before r e =
    let j = job_in r in
    let in_order : Bool = list_all (λ k. is_before k j) before in
    let other : Bool = not (is_ticket_open j.ticket before) in
    let form = and_parts (bytes_eq r (job_record j)) (can_be_open now j && (in_order && other)) e in
    let fields = and_parts (can_be_open now j) (in_order && other) form.1 in
    let rest = and_parts in_order other fields.1 in
    ((bytes_eq-Decides r (job_record j)).0 form.0, record { open_at = open_from_test now j fields.0; after = (all_before j before).0 rest.0; closed = not-true (is_ticket_open j.ticket before) rest.1 })

-- one more job
pub standing_push : (now : ℕ) (before : List Job) (j : Job) → Standing now before → Follows now before j → Standing now (before ++ (j ∷ []))
standing_push now before j s f = record {
  apart = all_pairs_push (λ i k. i.ticket ≢ k.ticket) before j s.apart (λ k d lt. others j.ticket before f.closed k d lt);
  order = all_pairs_push (λ i k. is_before i k ≡ true) before j s.order (λ k d lt. f.after k d lt);
  open_at = All-push (IsOpenAt now) before j s.open_at f.open_at;
}

-- the jobs that records say, up to the first that stands for none
abbrev pub jobs_of : List (List ℕ) → List Job
jobs_of rs = map job_in (take_while is_job_record rs)

-- one record more
pub jobs_of_more : (r : List ℕ) (rs : List (List ℕ)) → is_job_record r ≡ true → jobs_of (r ∷ rs) ≡ job_in r ∷ jobs_of rs
jobs_of_more r rs e = ap (map job_in) (take_while-cons is_job_record r rs ∙ cond-true (is_job_record r) (r ∷ take_while is_job_record rs) [] e)

-- none from the first of another kind on
pub jobs_of_none : (r : List ℕ) (rs : List (List ℕ)) → is_job_record r ≡ false → jobs_of (r ∷ rs) ≡ []
jobs_of_none r rs e = ap (map job_in) (take_while-cons is_job_record r rs ∙ cond-false (is_job_record r) (r ∷ take_while is_job_record rs) [] e)

-- no more jobs than records
pub jobs_of_few : (rs : List (List ℕ)) → length (jobs_of rs) ≤ length rs
jobs_of_few rs = omega (arith, length-map (take_while is_job_record rs) job_in, length-take (prefix_len is_job_record rs) rs)

-- the first place that passes a test, where the first element does
position_here : {X : Type 0} (p : X → Bool) (x : X) (xs : List X) → p x ≡ true → position p (x ∷ xs) ≡ Some 0
position_here p x xs e = grind (arith, nat_tests)

-- where all records are blank, the first is
pub first_blank : (k : ℕ) (r : List ℕ) (rs : List (List ℕ)) → first_not_blank k (r ∷ rs) ≡ None → r ≡ blank_record
first_blank k r rs e = elim (cases_Bool (bytes_eq r blank_record)) [
  | inl t ↦ (bytes_eq-Decides r blank_record).0 t
  | inr f ↦ absurd (let here = position_here (λ r. not (bytes_eq r blank_record)) r rs (ap not f) in let some : first_not_blank k (r ∷ rs) ≡ Some (k + 0) = ap (option_map (λ i. k + i)) here in cc)
]

-- where no record is wrong, the jobs that they say can be open together with those before
pub standing_later : (now : ℕ) (before : List Job) (k : ℕ) (rs : List (List ℕ)) → Standing now before → first_wrong_later now before k rs ≡ None → Standing now (before ++ jobs_of rs)
standing_later now before k [] s e = subst (Standing now) (sym (append-nil before)) s
standing_later now before k (r ∷ rs) s e = elim (cases_Bool (is_next_job now before r)) [
  | inl t ↦
      let parts = next_job_parts now before r t in
      let kind : is_job_record r ≡ true = ap is_job_record parts.0 in
      let rest : first_wrong_later now (before ++ (job_in r ∷ [])) (k + 1) rs ≡ None = sym (cond-true (is_next_job now before r) (first_wrong_later now (before ++ (job_in r ∷ [])) (k + 1) rs) (first_not_blank k (r ∷ rs)) t) ∙ e in
      let all = standing_later now (before ++ (job_in r ∷ [])) (k + 1) rs (standing_push now before (job_in r) s parts.1) rest in
      subst (Standing now) (append_assoc before (job_in r ∷ []) (jobs_of rs) ∙ ap (λ js. before ++ js) (sym (jobs_of_more r rs kind))) all
  | inr f ↦
      let rest : first_not_blank k (r ∷ rs) ≡ None = sym (cond-false (is_next_job now before r) (first_wrong_later now (before ++ (job_in r ∷ [])) (k + 1) rs) (first_not_blank k (r ∷ rs)) f) ∙ e in
      let kind : is_job_record r ≡ false = ap is_job_record (first_blank k r rs rest) in
      subst (Standing now) (sym (append-nil before) ∙ ap (λ js. before ++ js) (sym (jobs_of_none r rs kind))) s
]

-- a record of now and the top
pub record Clocked (r : List ℕ) : Type 0 where
  pub form : r ≡ clock_record (now_in r) (top_in r)
  pub positive : 1 ≤ top_in r
  pub within : top_in r ≤ 255

-- what its test says
pub clock_parts : (r : List ℕ) → is_clock r ≡ true → Clocked r
clock_parts r e =
    let form = and_parts (bytes_eq r (clock_record (now_in r) (top_in r))) _ e in
    record { form = (bytes_eq-Decides r (clock_record (now_in r) (top_in r))).0 form.0; positive = grind (arith, nat_tests, form.1); within = grind (arith, nat_tests, form.1) }

-- the book that records say
abbrev pub book_of : List ℕ → List (List ℕ) → View
book_of r rs = record { now = now_in r; top = top_in r; jobs = jobs_of rs }

-- no jobs
pub none_standing : (now : ℕ) → Standing now []
none_standing now = record { apart = λ a b d lt le. absurd (omega arith); order = λ a b d lt le. absurd (omega arith); open_at = λ k d lt. absurd (omega arith) }

-- a record of now and the top, and at most 64 jobs that can be open together
pub wellformed_jobs : (r : List ℕ) (js : List Job) → length js ≤ 64 → Clocked r → Standing (now_in r) js → IsWellFormed (record { now = now_in r; top = top_in r; jobs = js })
wellformed_jobs r js few c s =
    let now : now_in r ≡ number (bytes 6 (now_in r)) = ap now_in c.form in
    record {
      in_time = omega (arith, now, bytes_fit 6 (now_in r));
      top_positive = c.positive;
      top_within = c.within;
      few = few;
      tickets_differ = s.apart;
      in_order = s.order;
      jobs_open = s.open_at;
    }

-- where no record is wrong, the book that they say is well-formed
pub wellformed_records : (r : List ℕ) (rs : List (List ℕ)) → length rs ≤ 64 → is_clock r ≡ true → first_wrong_later (now_in r) [] 1 rs ≡ None → IsWellFormed (book_of r rs)
wellformed_records r rs few t e = wellformed_jobs r (jobs_of rs) (omega (arith, jobs_of_few rs)) (clock_parts r t) (standing_later (now_in r) [] 1 rs (none_standing (now_in r)) e)

-- and so is that of an image
pub wellformed_in : (list : List ℕ) → first_wrong list ≡ None → IsWellFormed (book_in list)
wellformed_in list e = go (is_clock (record_in list 0)) refl e
  where
    go : (t : Bool) → is_clock (record_in list 0) ≡ t → cond t (first_wrong_later (now_in (record_in list 0)) [] 1 (later_records list)) (Some 0) ≡ None → IsWellFormed (book_in list)
    go true t none = wellformed_records (record_in list 0) (later_records list) (omega (arith, length-map-range_with_len (record_in list) 1 64)) t none
    go false t none = absurd (cc)

-- what the search for overload tells of a well-formed book
pub searched : (b : View) → IsWellFormed b → Searched horizon (demands b.now b.jobs) b.top (first_overload_of b)
searched b w = theory.enough.searched horizon b.top (demands b.now b.jobs) (sound-demands horizon b.now b.jobs theory.ticks w.jobs_open)

-- a well-formed book in which it finds none is lawful
pub lawful_from : (b : View) → IsWellFormed b → first_overload_of b ≡ None → IsLawful b
lawful_from b w none = record {
  well_formed = w;
  none_overloaded = subst (Searched horizon (demands b.now b.jobs) b.top) none (searched b w);
}

-- where neither is there
or_none : {A : Type 0} (o p : Option A) → option_or o p ≡ None → (o ≡ None) × (p ≡ None)
or_none None p e = (refl, e)
or_none (Some x) p e = absurd (cc)

pub map_none : {A B : Type 0} (f : A → B) (o : Option A) → option_map f o ≡ None → o ≡ None
map_none f None e = refl
map_none f (Some x) e = absurd (cc)

-- what an image is that is loaded
pub record Loadable (list : List ℕ) : Type 0 where
  pub long : short_fault 1560 list ≡ None
  pub none_wrong : first_wrong list ≡ None
  pub none_over : first_overload_of (book_in list) ≡ None

-- it has no fault
pub loadable : (list : List ℕ) → load_fault list ≡ None → Loadable list
loadable list e =
    let length = or_none (short_fault 1560 list) (option_map Image (option_or (first_wrong list) (overload_record (book_in list)))) e in
    let records = or_none (first_wrong list) (overload_record (book_in list)) (map_none Image (option_or (first_wrong list) (overload_record (book_in list))) length.1) in
    record { long = length.0; none_wrong = records.0; none_over = map_none (λ ab. 65) (first_overload_of (book_in list)) records.1 }

-- accepted: there is no fault
answered : (f : Option _) (before after : View) → (plain_outcome f before after).answer ≡ Ok tt → f ≡ None
answered None before after e = refl
answered (Some fault) before after e = absurd (cc)

-- a loaded book is lawful
pub lawful_loaded : (b : View) (list : List ℕ) → (load_outcome b list).answer ≡ Ok tt → IsLawful (book_in list)
lawful_loaded b list e =
    let l = loadable list (answered (load_fault list) b (book_in list) e) in
    lawful_from (book_in list) (wellformed_in list l.none_wrong) l.none_over

-- and it is the one that the image says
pub loaded_book : (b : View) (list : List ℕ) → (load_outcome b list).answer ≡ Ok tt → (load_outcome b list).book ≡ book_in list
loaded_book b list e = ap (λ f. (plain_outcome f b (book_in list)).book) (answered (load_fault list) b (book_in list) e)
