-- The entries of a tick, in the tally.
use Rattle.std.proofs.Common.{◌≡◌, ◌≢◌, ℕ, ◌+◌, ◌-◌, ◌≤◌, ◌==◌, true, false, if◌then◌else◌, inl, inr, Some, List, [], ◌∷◌, ◌∙◌, map, get_or, refl, sym, ap, subst, arith}
use Rattle.std.specs.List.{All, AllPairs, Contains, filter}
use Rattle.std.specs.List.Sorted.{IsPermutation}
use Rattle.std.proofs.lemmas.Bool.{cases_Bool, eqb-true, eq-eqb, ne_eqb, lt-ltb}
use Rattle.std.proofs.lemmas.Bool.Decides.{nat_tests}
use Rattle.std.proofs.lemmas.List.Elements.{All-head, All-tail, All-cons, All-map, All-filter, All-weaker, All-contains, filter_passes}
use Rattle.std.proofs.lemmas.List.Sorted.{IsPermutation-sym}
use Rattle.layout.specs.declared.job.Job.{Job}
use Rattle.book.specs.declared.tick.Entry.{Entry}
use Rattle.book.specs.Book.{View, IsLawful, IsOpenAt}
use Rattle.book.specs.Settings.{settings_of}
use Rattle.book.specs.Ticks.{worked_job, entries_of, grants_of, has_work}
use Rattle.book.proofs.Jobs.{AllPairs-head, AllPairs-tail}
use Rattle.life.specs.Tally.{Row, Tally, is_row_open, job_of_row, open_jobs, row_has_ticket, last_row, rows_with_last, row_given, rows_after_entries}
use Rattle.life.specs.Promises.{GoesToOpen}
use Rattle.life.proofs.Rows.{Newest, Within}
use Rattle.life.proofs.Entries.{job_after, jobs_after, jobs_after_all, jobs_after_others, jobs_after_all_permutation, grants_after, entries_differ, ForJob, for_job_permutation, for_job_after, entries_for_jobs, contains_cases, jobs_granted, all_granted, pairs_granted, grants_sound}

-- open jobs have work left
open_works : (rows : List Row) → All (λ j. has_work j ≡ true) (open_jobs rows)
open_works rows = All-map (λ j. has_work j ≡ true) job_of_row (filter is_row_open rows) (All-weaker (λ r. is_row_open r ≡ true) (λ r. has_work (job_of_row r) ≡ true) (λ r open_row. grind (arith, nat_tests)) (filter is_row_open rows) (filter_passes is_row_open rows))

-- a row that is open and gets units is open still where its job has work left then, and one that is closed stays so
given_still : (u : ℕ) (r : Row) → is_row_open r ≡ true → is_row_open (row_given u r) ≡ has_work (worked_job (job_of_row r, u))
given_still u r open_row = grind (arith, nat_tests)

given_closed : (u : ℕ) (r : Row) → is_row_open r ≡ false → is_row_open (row_given u r) ≡ false
given_closed u r closed = grind (arith, nat_tests)

given_left : (u : ℕ) (r : Row) → job_of_row (row_given u r) ≡ worked_job (job_of_row r, u)
given_left u r = let e : r.job.work - (r.had + u) ≡ r.job.work - r.had - u = omega arith in λ i. record r.job { work = e i }

-- the row that an entry goes to
given_row : (e : Entry) (r : Row) (rs : List Row) → r.job.ticket ≡ e.ticket → All (λ j. j.ticket ≢ r.job.ticket) (open_jobs rs) → open_jobs (row_given e.units r ∷ rs) ≡ jobs_after e (open_jobs (r ∷ rs))
given_row e r rs same others =
    let rest = jobs_after_others e (open_jobs rs) (subst (λ t. All (λ j. j.ticket ≢ t) (open_jobs rs)) same others) (open_works rs) in
    elim (cases_Bool (is_row_open r)) [
      | inl t ↦ elim (cases_Bool (has_work (worked_job (job_of_row r, e.units)))) [
        | inl w ↦
            let still = given_still e.units r t ∙ w in
            rw (still, t, eq-eqb r.job.ticket e.ticket same, w, rest) (ap (λ j. j ∷ open_jobs rs) (given_left e.units r))
        | inr w ↦ let still = given_still e.units r t ∙ w in rw (still, t, eq-eqb r.job.ticket e.ticket same, w, rest)
      ]
      | inr t ↦ rw (given_closed e.units r t, t, rest)
    ]

-- a row with another ticket is left
given_other : (e : Entry) (r : Row) (rs qs : List Row) → row_has_ticket e.ticket r ≡ false → open_jobs qs ≡ jobs_after e (open_jobs rs) → open_jobs (r ∷ qs) ≡ jobs_after e (open_jobs (r ∷ rs))
given_other e r rs qs other rest = elim (cases_Bool (is_row_open r)) [
  | inl t ↦ let works : has_work (job_of_row r) ≡ true = grind (arith, nat_tests) in rw (t, other, works) (ap (λ js. job_of_row r ∷ js) rest)
  | inr t ↦ rw t rest
]

-- an entry takes its units from the open job of its ticket
given_open : (e : Entry) (rows : List Row) → Newest rows → open_jobs (rows_with_last e.ticket (row_given e.units) rows) ≡ jobs_after e (open_jobs rows)
given_open e [] newest = refl
given_open e (r ∷ rs) newest = elim (cases_Bool (row_has_ticket e.ticket r)) [
  | inl t ↦ rw t (given_row e r rs (eqb-true r.job.ticket e.ticket t) newest.0)
  | inr t ↦ rw t (given_other e r rs (rows_with_last e.ticket (row_given e.units) rs) t (given_open e rs newest.1))
]

-- a job keeps its ticket
job_after_ticket : (e : Entry) (j : Job) → (job_after e j).ticket ≡ j.ticket
job_after_ticket e j = elim (j.ticket == e.ticket) as (λ b. (if b then worked_job (j, e.units) else j).ticket ≡ j.ticket) [ true ↦ refl | false ↦ refl ]

jobs_after_tickets : (t : ℕ) (e : Entry) (js : List Job) → All (λ j. j.ticket ≢ t) js → All (λ j. j.ticket ≢ t) (jobs_after e js)
jobs_after_tickets t e js others =
    All-filter has_work (λ j. j.ticket ≢ t) (map (job_after e) js)
    (All-map (λ j. j.ticket ≢ t) (job_after e) js (All-weaker (λ j. j.ticket ≢ t) (λ j. (job_after e j).ticket ≢ t) (λ j ne same. ne (sym (job_after_ticket e j) ∙ same)) js others))

-- so the last row with a ticket is the only one that may be open
given_newest : (e : Entry) (rows : List Row) → Newest rows → Newest (rows_with_last e.ticket (row_given e.units) rows)
given_newest e [] newest = tt
given_newest e (r ∷ rs) newest = elim (cases_Bool (row_has_ticket e.ticket r)) [
  | inl t ↦ rw t newest
  | inr t ↦ rw t (rw (given_open e rs newest.1) (jobs_after_tickets r.job.ticket e (open_jobs rs) newest.0), given_newest e rs newest.1)
]

-- the row of an open job is the last one with its ticket
record OpenRow (j : Job) (rows : List Row) : Type 0 where
  pub row : Row
  pub last : last_row j.ticket rows ≡ Some row
  pub still_open : is_row_open row ≡ true
  pub same : job_of_row row ≡ j

open_behind : (j : Job) (r : Row) (rs : List Row) → j.ticket ≢ r.job.ticket → OpenRow j rs → OpenRow j (r ∷ rs)
open_behind j r rs differ o = record { row = o.row; last = rw (ne_eqb r.job.ticket j.ticket (λ e. differ (sym e))) o.last; still_open = o.still_open; same = o.same }

open_row : (j : Job) (rows : List Row) → Newest rows → Contains (open_jobs rows) j → OpenRow j rows
open_row j [] newest c = absurd (omega (arith, c.1))
open_row j (r ∷ rs) newest c =
    let further = λ (behind : Contains (open_jobs rs) j). open_behind j r rs (All-contains (λ k. k.ticket ≢ r.job.ticket) (open_jobs rs) j newest.0 behind) (open_row j rs newest.1 behind) in
    elim (cases_Bool (is_row_open r)) [
      | inl t ↦ elim (contains_cases j (job_of_row r) (open_jobs rs) (rw t at c)) [
        | inl same ↦ record { row = r; last = rw (eq-eqb r.job.ticket j.ticket (ap (λ (k : Job). k.ticket) same)) refl; still_open = t; same = same }
        | inr behind ↦ further behind
      ]
      | inr t ↦ further (rw t at c)
    ]

-- an entry for an open job goes to its row
goes_to_open : (t : Tally) (e : Entry) → Newest t.rows → ForJob t.now (open_jobs t.rows) e → GoesToOpen t e
goes_to_open t e newest d =
    let o = open_row d.job t.rows newest d.among in
    record {
      row = o.row;
      last = ap (λ k. last_row k t.rows) (sym d.same_ticket) ∙ o.last;
      still_open = o.still_open;
      begun = omega (arith, ap (λ (j : Job). j.arrival) o.same, d.begun);
      not_over = omega (arith, ap (λ (j : Job). j.deadline) o.same, d.not_over);
    }

-- where the last row with its ticket can take its units, no row has had more than its work afterwards
given_within : (e : Entry) (rows : List Row) (r : Row) → last_row e.ticket rows ≡ Some r → r.had + e.units ≤ r.job.work → Within rows
    → Within (rows_with_last e.ticket (row_given e.units) rows)
given_within e [] r last room within = within
given_within e (q ∷ rs) r last room within =
    let here = All-head (λ (p : Row). p.had ≤ p.job.work) q rs within in
    let behind = All-tail (λ (p : Row). p.had ≤ p.job.work) q rs within in
    elim (cases_Bool (row_has_ticket e.ticket q)) [
      | inl t ↦
          let at_first = rw t at last in
          let is : q ≡ r = cc in
          rw t (All-cons (λ (p : Row). p.had ≤ p.job.work) (row_given e.units q) rs (rw is room) behind)
      | inr t ↦ rw t (All-cons (λ (p : Row). p.had ≤ p.job.work) q (rows_with_last e.ticket (row_given e.units) rs) here (given_within e rs r (rw t at last) room behind))
    ]

-- the rows after entries with different tickets, each for an open job
record RowsAfter (es : List Entry) (rows : List Row) : Type 0 where
  pub newest : Newest (rows_after_entries es rows)
  pub within : Within (rows_after_entries es rows)
  pub left : open_jobs (rows_after_entries es rows) ≡ jobs_after_all es (open_jobs rows)

rows_after : (now : ℕ) (es : List Entry) (rows : List Row) → AllPairs (λ e f. e.ticket ≢ f.ticket) es → All (ForJob now (open_jobs rows)) es → Newest rows → Within rows → RowsAfter es rows
rows_after now [] rows differ for_jobs newest within = record { newest = newest; within = within; left = refl }
rows_after now (e ∷ es) rows differ for_jobs newest within =
    let js = open_jobs rows in
    let d = All-head (ForJob now js) e es for_jobs in
    let o = open_row d.job rows newest d.among in
    let qs = rows_with_last e.ticket (row_given e.units) rows in
    let left = given_open e rows newest in
    let others = AllPairs-head (λ e f. e.ticket ≢ f.ticket) e es differ in
    let behind = All-tail (ForJob now js) e es for_jobs in
    let for_jobs_still : All (ForJob now (jobs_after e js)) es = λ k c lt. for_job_after now e (get_or es k c) js (others k c lt) (behind k c lt) in
    let last = ap (λ k. last_row k rows) (sym d.same_ticket) ∙ o.last in
    let room : o.row.had + e.units ≤ o.row.job.work = omega (arith, ap (λ (j : Job). j.work) o.same, d.some_units, d.enough_left) in
    let rest = rows_after now es qs (AllPairs-tail (λ e f. e.ticket ≢ f.ticket) e es differ) (rw left for_jobs_still) (given_newest e rows newest) (given_within e rows o.row last room within) in
    record { newest = rest.newest; within = rest.within; left = rest.left ∙ ap (jobs_after_all es) left }

-- what the entries of a tick are and leave, in the tally
pub record Fed (t : Tally) (es : List Entry) (after : List Job) : Type 0 where
  pub to_open : All (GoesToOpen t) es
  pub newest : Newest (rows_after_entries es t.rows)
  pub within : Within (rows_after_entries es t.rows)
  pub same : IsPermutation (open_jobs (rows_after_entries es t.rows)) after

pub fed : (t : Tally) (b : View) → IsLawful b → t.now ≡ b.now → IsPermutation (open_jobs t.rows) b.jobs → Newest t.rows → Within t.rows
    → Fed t (entries_of (grants_of b)) (filter has_work (map worked_job (grants_of b)))
fed t b lawful now_same jobs_same newest within =
    let u = settings_of b 0 in
    let ss = grants_of b in
    let es = entries_of ss in
    let open_at = lawful.well_formed.jobs_open in
    let granted = jobs_granted b.now u b.jobs in
    let differ = pairs_granted (λ j k. j.ticket ≢ k.ticket) b.now u b.jobs lawful.well_formed.tickets_differ in
    let works = all_granted (λ j. has_work j ≡ true) b.now u b.jobs (All-weaker (IsOpenAt b.now) (λ j. has_work j ≡ true) (λ j h. lt-ltb 0 j.work h.work_left) b.jobs open_at) in
    let for_jobs_there : All (ForJob b.now b.jobs) es = rw granted at (entries_for_jobs b.now ss (grants_sound b.now u b.jobs open_at)) in
    let for_jobs : All (ForJob t.now (open_jobs t.rows)) es
    = rw now_same (All-weaker (ForJob b.now b.jobs) (ForJob b.now (open_jobs t.rows)) (for_job_permutation b.now b.jobs (open_jobs t.rows) (IsPermutation-sym (open_jobs t.rows) b.jobs jobs_same)) es for_jobs_there) in
    let end = rows_after t.now es t.rows (entries_differ ss differ) for_jobs newest within in
    let all_after : jobs_after_all es b.jobs ≡ filter has_work (map worked_job ss) = ap (jobs_after_all es) (sym granted) ∙ grants_after ss differ works in
    record {
      to_open = All-weaker (ForJob t.now (open_jobs t.rows)) (GoesToOpen t) (λ e d. goes_to_open t e newest d) es for_jobs;
      newest = end.newest;
      within = end.within;
      same = rw (end.left, ← all_after) (jobs_after_all_permutation es (open_jobs t.rows) b.jobs jobs_same);
    }
