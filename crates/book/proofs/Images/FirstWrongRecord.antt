-- The search for a wrong record, over the records after the first.
use Rattle.std.proofs.Common.{◌≡◌, ℕ, zero, suc, ◌+◌, ◌-◌, ◌<◌, ◌≤◌, Bool, true, false, not, ◌&&◌, inl, inr, List, [], ◌∷◌, ◌++◌, ◌∙◌, map, length, take, get_or, replicate, Option, Some, None, sym, refl, ap, subst, arith}
use Rattle.std.specs.List.{All, list_all, list_any, position}
use Rattle.std.specs.Option.{option_map}
use Rattle.std.specs.Str.{bytes_eq}
use Rattle.std.proofs.lemmas.Bool.{cases_Bool, and_from, or_parts, cond-true, cond-false, not-false, not_from_false, both_ways, ne_eqb}
use Rattle.std.proofs.lemmas.Bool.Decides.{nat_tests}
use Rattle.std.proofs.lemmas.List.{append_assoc, append-nil, get_or_at, get_or_append_left, get_or-take, get_or-replicate, get_or_default, length-append, length-take-le, length-replicate, same_lists}
use Rattle.std.proofs.lemmas.List.Elements.{All-head, All-tail, All-nil, All-cons}
use Rattle.std.proofs.lemmas.List.Folds.{list_any_none}
use Rattle.std.proofs.lemmas.List.Quantifiers.{position-Some}
use Rattle.std.proofs.lemmas.Slice.Eq.{bytes_eq-Decides}
use Rattle.layout.proofs.BigEndian.{bytes_fit}
use Rattle.layout.proofs.Encodings.{job_in-record_bytes}
use Rattle.layout.specs.declared.job.Job.{Job}
use Rattle.book.specs.Jobs.{is_before, has_ticket, is_ticket_open}
use Rattle.book.specs.Book.{IsOpenAt}
use Rattle.layout.specs.Jobs.{job_in}
use Rattle.book.specs.Images.{job_record, blank_record, can_be_open, is_next_job, first_not_blank, first_wrong_later}
use Rattle.layout.specs.Jobs.{IsSized}
use Rattle.book.proofs.Images.BookSaid.{all_before, map_none, Standing, Follows, standing_push, next_job_parts, jobs_of, jobs_of_more, jobs_of_none}

-- the test of a job that is open
test_from_open : (now : ℕ) (j : Job) → IsOpenAt now j → can_be_open now j ≡ true
test_from_open now j h = grind (arith, nat_tests, h.some_ticket, h.work_left, h.not_due, h.in_sight, h.in_time, h.some_window, h.short_window)

-- the record of a job says the job
pub said : (now : ℕ) (j : Job) → IsOpenAt now j → IsSized j → job_in (job_record j) ≡ j
said now j o s =
    job_in-record_bytes 0x4a j (replicate 6 0) s (omega (arith, o.in_time, o.some_window)) (omega (arith, o.in_time))

-- what a record says that has the form of a job's has the sizes of the fields
sized : (r : List ℕ) → r ≡ job_record (job_in r) → IsSized (job_in r)
sized r e =
    let j = job_in r in
    record { ticket = rw (ap (λ r. (job_in r).ticket) e) (bytes_fit 2 j.ticket); work = rw (ap (λ r. (job_in r).work) e) (bytes_fit 2 j.work) }

-- a job among others follows those before it
pub follows : (now : ℕ) (before : List Job) (j : Job) (js : List Job) → Standing now (before ++ (j ∷ js)) → Follows now before j
follows now before j js s =
    let n = length before in
    let low : n < length (before ++ (j ∷ js)) = omega (arith, length-append before (j ∷ js)) in
    let at : get_or (before ++ (j ∷ js)) n j ≡ j = get_or_at before j js j n refl in
    record {
      open_at = subst (IsOpenAt now) at (s.open_at n j low);
      after = λ k d lt.
          let left : get_or (before ++ (j ∷ js)) k d ≡ get_or before k d = get_or_append_left before (j ∷ js) d k lt in
          let right : get_or (before ++ (j ∷ js)) n d ≡ j = get_or_at before j js d n refl in
          let both : is_before (get_or (before ++ (j ∷ js)) k d) (get_or (before ++ (j ∷ js)) n d) ≡ true = s.order k n d lt low in
          sym (λ i. is_before (left i) (right i)) ∙ both;
      closed = list_any_none (has_ticket j.ticket) before (λ k d lt.
          let left : get_or (before ++ (j ∷ js)) k d ≡ get_or before k d = get_or_append_left before (j ∷ js) d k lt in
          let right : get_or (before ++ (j ∷ js)) n d ≡ j = get_or_at before j js d n refl in
          let apart = s.apart k n d lt low in
          ne_eqb (get_or before k d).ticket j.ticket (λ e. apart (ap (λ x. x.ticket) left ∙ (e ∙ sym (ap (λ x. x.ticket) right)))));
    }

-- the record of a job that follows those before is that of a next job
follower_is_next : (now : ℕ) (before : List Job) (j : Job) → IsSized j → Follows now before j → is_next_job now before (job_record j) ≡ true
follower_is_next now before j s f =
    let says = said now j f.open_at s in
    subst (λ i. (bytes_eq (job_record j) (job_record i) && (can_be_open now i && (list_all (λ k. is_before k i) before && not (is_ticket_open i.ticket before)))) ≡ true) (sym says)
    (and_from _ _ ((bytes_eq-Decides (job_record j) (job_record j)).1 refl)
    (and_from _ _ (test_from_open now j f.open_at) (and_from _ _ ((all_before j before).1 f.after) (not_from_false _ f.closed))))

-- a blank record is not
blank_stops : (now : ℕ) (before : List Job) → is_next_job now before blank_record ≡ false
blank_stops now before = refl

-- one step of the search for a wrong record
later_on : (now : ℕ) (before : List Job) (k : ℕ) (r : List ℕ) (rs : List (List ℕ)) → is_next_job now before r ≡ true → first_wrong_later now before k (r ∷ rs) ≡ first_wrong_later now (before ++ (job_in r ∷ [])) (k + 1) rs
later_on now before k r rs e = cond-true (is_next_job now before r) (first_wrong_later now (before ++ (job_in r ∷ [])) (k + 1) rs) (first_not_blank k (r ∷ rs)) e

-- where the jobs end
later_blank : (now : ℕ) (before : List Job) (k : ℕ) (r : List ℕ) (rs : List (List ℕ)) → is_next_job now before r ≡ false → first_wrong_later now before k (r ∷ rs) ≡ first_not_blank k (r ∷ rs)
later_blank now before k r rs e = cond-false (is_next_job now before r) (first_wrong_later now (before ++ (job_in r ∷ [])) (k + 1) rs) (first_not_blank k (r ∷ rs)) e

-- whether a record is not blank
abbrev filled : List ℕ → Bool
filled r = not (bytes_eq r blank_record)

-- one that is not filled is blank
blank_there : (r : List ℕ) → filled r ≡ false → r ≡ blank_record
blank_there r e = (bytes_eq-Decides r blank_record).0 (not-false (bytes_eq r blank_record) e)

-- the first place that is not blank, counted from k on
index_of : (k : ℕ) (o : Option ℕ) (x : ℕ) → option_map (λ i. k + i) o ≡ Some x → (i : ℕ) × (o ≡ Some i) × (k + i ≡ x)
index_of k None x e = absurd (cc)
index_of k (Some i) x e = (i, refl, cc)

-- the wrong record has a number among those of the records
pub within : (now : ℕ) (before : List Job) (k : ℕ) (rs : List (List ℕ)) (x : ℕ) → first_wrong_later now before k rs ≡ Some x → (i : ℕ) × (i < length rs) × (k + i ≡ x)
within now before k [] x e = absurd (cc)
within now before k (r ∷ rs) x e = elim (cases_Bool (is_next_job now before r)) [
  | inl t ↦
      let more = within now (before ++ (job_in r ∷ [])) (k + 1) rs x (sym (later_on now before k r rs t) ∙ e) in
      (suc more.0, omega (arith, more.1), omega (arith, more.2))
  | inr f ↦
      let found = index_of k (position filled (r ∷ rs)) x (sym (later_blank now before k r rs f) ∙ e) in
      (found.0, (position-Some filled (r ∷ rs) found.0 r found.1).0, found.2)
]

-- each element of copies of one is that one
get_or-replicate_any : {X : Type 0} (n i : ℕ) (x : X) → get_or (replicate n x) i x ≡ x
get_or-replicate_any zero i x = refl
get_or-replicate_any (suc n) zero x = refl
get_or-replicate_any (suc n) (suc i) x = get_or-replicate_any n i x

-- of records that begin with blank ones, each of these is blank
blank_at : (n i m : ℕ) (rs : List (List ℕ)) → take (suc i) rs ≡ take (suc i) (replicate n blank_record) → m ≤ i → filled (get_or rs m blank_record) ≡ false
blank_at n i m rs same le =
    let here : get_or (take (suc i) rs) m blank_record ≡ get_or rs m blank_record = get_or-take (suc i) rs m blank_record (omega arith) in
    let there : get_or (take (suc i) (replicate n blank_record)) m blank_record ≡ get_or (replicate n blank_record) m blank_record = get_or-take (suc i) (replicate n blank_record) m blank_record (omega arith) in
    ap filled (sym here ∙ (ap (λ xs. get_or xs m blank_record) same ∙ (there ∙ get_or-replicate_any n m blank_record)))

-- the later records of a book: those of its jobs, and n blank ones
abbrev pub later_of : List Job → ℕ → List (List ℕ)
later_of js n = map job_record js ++ replicate n blank_record

-- the record of a job that can be open with those before is not the wrong one
passes : (now : ℕ) (before : List Job) (j : Job) (js : List Job) (k : ℕ) (r : List ℕ) (rs : List (List ℕ)) (x : Option ℕ) → Standing now (before ++ (j ∷ js)) → IsSized j → r ≡ job_record j
    → first_wrong_later now before k (r ∷ rs) ≡ x → first_wrong_later now (before ++ (j ∷ [])) (k + 1) rs ≡ x
passes now before j js k r rs x s fit same e =
    let f = follows now before j js s in
    let on : is_next_job now before r ≡ true = ap (is_next_job now before) same ∙ follower_is_next now before j fit f in
    let says : job_in r ≡ j = ap job_in same ∙ said now j f.open_at fit in
    ap (λ i. first_wrong_later now (before ++ (i ∷ [])) (k + 1) rs) (sym says) ∙ (sym (later_on now before k r rs on) ∙ e)

-- no record of jobs that can be open together is wrong, nor any blank one after them
pub never_wrong : (now : ℕ) (before js : List Job) (n k i : ℕ) (rs : List (List ℕ)) → Standing now (before ++ js) → All IsSized js → take (suc i) rs ≡ take (suc i) (later_of js n)
    → first_wrong_later now before k rs ≡ Some (k + i) → ⊥
never_wrong now before js n k i [] s fit same e = cc
never_wrong now before (j ∷ js) n k zero (r ∷ rs) s fit same e =
    let here : r ≡ job_record j = cc in
    let found = within now (before ++ (j ∷ [])) (k + 1) rs (k + 0) (passes now before j js k r rs (Some (k + 0)) s (All-head IsSized j js fit) here e) in
    omega (arith, found.2)
never_wrong now before (j ∷ js) n k (suc i) (r ∷ rs) s fit same e =
    let here : r ≡ job_record j = cc in
    let behind : take (suc i) rs ≡ take (suc i) (later_of js n) = cc in
    let number : k + suc i ≡ k + 1 + i = omega arith in
    never_wrong now (before ++ (j ∷ [])) js n (k + 1) i rs (subst (Standing now) (sym (append_assoc before (j ∷ []) js)) s) (All-tail IsSized j js fit) behind
    (passes now before j js k r rs (Some (k + 1 + i)) s (All-head IsSized j js fit) here (e ∙ ap (λ x. Some x) number))
never_wrong now before [] zero k i (r ∷ rs) s fit same e = cc
never_wrong now before [] (suc n) k i (r ∷ rs) s fit same e =
    let here : r ≡ blank_record = cc in
    let off : is_next_job now before r ≡ false = ap (is_next_job now before) here ∙ blank_stops now before in
    let found = index_of k (position filled (r ∷ rs)) (k + i) (sym (later_blank now before k r rs off) ∙ e) in
    let at : found.0 ≡ i = omega (arith, found.2) in
    let is_filled = (position-Some filled (r ∷ rs) found.0 blank_record found.1).1 in
    both_ways (filled (get_or (r ∷ rs) found.0 blank_record)) (blank_at (suc n) i found.0 (r ∷ rs) same (omega arith)) is_filled

-- what is never some is none
none_or_some : {X : Type 0} (o : Option X) → ((x : X) → o ≡ Some x → ⊥) → o ≡ None
none_or_some None never = refl
none_or_some (Some x) never = absurd (never x refl)

-- so the search finds none in a book's records
pub none_wrong : (now : ℕ) (before js : List Job) (n k : ℕ) → Standing now (before ++ js) → All IsSized js → first_wrong_later now before k (later_of js n) ≡ None
none_wrong now before js n k s fit =
    none_or_some (first_wrong_later now before k (later_of js n)) (λ x e.
    let found = within now before k (later_of js n) x e in
    never_wrong now before js n k found.0 (later_of js n) s fit refl (e ∙ ap (λ x. Some x) (sym found.2)))

-- the jobs that a book's records say are the book's
pub jobs_back : (now : ℕ) (js : List Job) (n : ℕ) → All (IsOpenAt now) js → All IsSized js → jobs_of (later_of js n) ≡ js
jobs_back now [] zero o s = refl
jobs_back now [] (suc n) o s = jobs_of_none blank_record (replicate n blank_record) refl
jobs_back now (j ∷ js) n o s =
    let here = said now j (All-head (IsOpenAt now) j js o) (All-head IsSized j js s) in
    let rest = jobs_back now js n (All-tail (IsOpenAt now) j js o) (All-tail IsSized j js s) in
    jobs_of_more (job_record j) (later_of js n) refl ∙ (λ i. here i ∷ rest i)

-- where no record is filled, all are blank
all_blank : (rs : List (List ℕ)) → list_any filled rs ≡ false → rs ≡ replicate (length rs) blank_record
all_blank [] e = refl
all_blank (r ∷ rs) e =
    let parts = or_parts (filled r) (list_any filled rs) e in
    let here = blank_there r parts.0 in
    let rest = all_blank rs parts.1 in
    λ i. here i ∷ rest i

-- those before the first filled one are blank
blank_before : (i : ℕ) (rs : List (List ℕ)) → position filled rs ≡ Some i → take i rs ≡ replicate i blank_record
blank_before i rs e =
    let found = position-Some filled rs i blank_record e in
    let long : length (take i rs) ≡ i = length-take-le i rs (omega (arith, found.0)) in
    same_lists (take i rs) (replicate i blank_record) (long ∙ sym (length-replicate i blank_record)) (λ m d lt.
    let low : m < i = omega (arith, long) in
    get_or-take i rs m d low ∙ (get_or_default rs m d blank_record (omega (arith, found.0)) ∙ (blank_there (get_or rs m blank_record) (found.2 m low) ∙ sym (get_or-replicate i m blank_record d low))))

-- records that show jobs that can be open with those before
pub record Showing (now : ℕ) (before : List Job) (rs : List (List ℕ)) : Type 0 where
  pub jobs : List Job
  pub standing : Standing now (before ++ jobs)
  pub fit : All IsSized jobs
  pub few : length jobs ≤ length rs
  pub form : rs ≡ later_of jobs (length rs - length jobs)

-- blank ones show no job
showing_blank : (now : ℕ) (before : List Job) (rs : List (List ℕ)) (n : ℕ) → Standing now before → rs ≡ replicate n blank_record → Showing now before rs
showing_blank now before rs n s e =
    let long : length rs ≡ n = ap length e ∙ length-replicate n blank_record in
    record { jobs = []; standing = subst (Standing now) (sym (append-nil before)) s; fit = All-nil IsSized; few = omega arith; form = e ∙ ap (λ n. replicate n blank_record) (omega (arith, long)) }

-- the record of one job more
showing_more : (now : ℕ) (before : List Job) (r : List ℕ) (rs : List (List ℕ)) → r ≡ job_record (job_in r) → Showing now (before ++ (job_in r ∷ [])) rs → Showing now before (r ∷ rs)
showing_more now before r rs e s = record {
  jobs = job_in r ∷ s.jobs;
  standing = subst (Standing now) (append_assoc before (job_in r ∷ []) s.jobs) s.standing;
  fit = All-cons IsSized (job_in r) s.jobs (sized r e) s.fit;
  few = omega (arith, s.few);
  form =
      let count : length rs - length s.jobs ≡ suc (length rs) - suc (length s.jobs) = omega arith in
      let rest : rs ≡ later_of s.jobs (suc (length rs) - suc (length s.jobs)) = s.form ∙ ap (later_of s.jobs) count in
      λ i. e i ∷ rest i;
}

-- the records before the wrong one show such jobs
pub begins : (now : ℕ) (before : List Job) (k i : ℕ) (rs : List (List ℕ)) → Standing now before → first_wrong_later now before k rs ≡ Some (k + i) → Showing now before (take i rs)
begins now before k zero rs s e = showing_blank now before [] 0 s refl
begins now before k (suc i) [] s e = absurd (cc)
begins now before k (suc i) (r ∷ rs) s e = elim (cases_Bool (is_next_job now before r)) [
  | inl t ↦
      let parts = next_job_parts now before r t in
      let number : k + suc i ≡ k + 1 + i = omega arith in
      showing_more now before r (take i rs) parts.0
      (begins now (before ++ (job_in r ∷ [])) (k + 1) i rs (standing_push now before (job_in r) s parts.1) (sym (later_on now before k r rs t) ∙ (e ∙ ap (λ x. Some x) number)))
  | inr f ↦
      let found = index_of k (position filled (r ∷ rs)) (k + suc i) (sym (later_blank now before k r rs f) ∙ e) in
      let at : found.0 ≡ suc i = omega (arith, found.2) in
      showing_blank now before (take (suc i) (r ∷ rs)) (suc i) s (subst (λ n. take n (r ∷ rs) ≡ replicate n blank_record) at (blank_before found.0 (r ∷ rs) found.1))
]

-- none passes where no place is found
not_found : {X : Type 0} (p : X → Bool) (xs : List X) → position p xs ≡ None → list_any p xs ≡ false
not_found p [] none = refl
not_found p (x ∷ xs) none = let rest = not_found p xs in grind (arith, nat_tests)

-- where none is wrong, all records do
pub shows_all : (now : ℕ) (before : List Job) (k : ℕ) (rs : List (List ℕ)) → Standing now before → first_wrong_later now before k rs ≡ None → Showing now before rs
shows_all now before k [] s e = showing_blank now before [] 0 s refl
shows_all now before k (r ∷ rs) s e = elim (cases_Bool (is_next_job now before r)) [
  | inl t ↦
      let parts = next_job_parts now before r t in
      showing_more now before r rs parts.0 (shows_all now (before ++ (job_in r ∷ [])) (k + 1) rs (standing_push now before (job_in r) s parts.1) (sym (later_on now before k r rs t) ∙ e))
  | inr f ↦
      let none = map_none (λ i. k + i) (position filled (r ∷ rs)) (sym (later_blank now before k r rs f) ∙ e) in
      showing_blank now before (r ∷ rs) (length (r ∷ rs)) s (all_blank (r ∷ rs) (not_found filled (r ∷ rs) none))
]
