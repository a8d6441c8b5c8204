-- The rows of a tally: which of them are open, and what calls make of them.
use Rattle.std.proofs.Common.{◌≡◌, ◌≢◌, ℕ, ◌-◌, ◌<◌, ◌≤◌, false, not, ◌==◌, inl, inr, List, [], ◌∷◌, ◌∙◌, map, refl, sym, ap, subst, arith}
use Rattle.std.specs.List.{All, AllPairs}
use Rattle.std.proofs.lemmas.Bool.{cases_Bool, eqb-true, eqb-false, eq-eqb, ne_eqb, lt-ltb, or_parts}
use Rattle.std.proofs.lemmas.List.Elements.{All-nil, All-head, All-tail, All-cons, All-map, All-filter, All-weaker}
use Rattle.layout.specs.declared.job.Job.{Job}
use Rattle.book.specs.Jobs.{is_ticket_open as is_open_job, jobs_without}
use Rattle.book.proofs.Jobs.{AllPairs-head, AllPairs-tail, without_others}
use Rattle.life.specs.Tally.{Row, is_row_open, job_of_row, open_jobs, row_has_ticket, rows_with_last, row_of, row_struck}

-- only the last row with a ticket may be open
abbrev pub Newest : List Row → Type 0
Newest [] = Unit {0}
Newest (r ∷ rs) = All (λ j. j.ticket ≢ r.job.ticket) (open_jobs rs) × Newest rs

-- no row has had more than its work
abbrev pub Within : List Row → Type 0
Within rows = All (λ r. r.had ≤ r.job.work) rows

-- and so it is with one row changed, where the change keeps that
within_changed : (k : ℕ) (change : Row → Row) (rows : List Row) → ((r : Row) → r.had ≤ r.job.work → (change r).had ≤ (change r).job.work) → Within rows → Within (rows_with_last k change rows)
within_changed k change [] keeps within = All-nil (λ (r : Row). r.had ≤ r.job.work)
within_changed k change (r ∷ rs) keeps within =
    let here = All-head (λ (q : Row). q.had ≤ q.job.work) r rs within in
    let behind = All-tail (λ (q : Row). q.had ≤ q.job.work) r rs within in
    elim (cases_Bool (row_has_ticket k r)) [
      | inl t ↦ rw t (All-cons (λ (q : Row). q.had ≤ q.job.work) (change r) rs (keeps r here) behind)
      | inr t ↦ rw t (All-cons (λ (q : Row). q.had ≤ q.job.work) r (rows_with_last k change rs) here (within_changed k change rs keeps behind))
    ]

-- the open job of the last row with the ticket, if it is open, is the only one with it
without_last : (k : ℕ) (r : Row) (rs : List Row) → r.job.ticket ≡ k → All (λ j. j.ticket ≢ r.job.ticket) (open_jobs rs) → jobs_without k (open_jobs (r ∷ rs)) ≡ open_jobs rs
without_last k r rs same others =
    let apart = subst (λ t. All (λ j. j.ticket ≢ t) (open_jobs rs)) same others in
    let rest = without_others k (open_jobs rs) (All-weaker (λ j. j.ticket ≢ k) (λ j. k ≢ j.ticket) (λ j ne e. ne (sym e)) (open_jobs rs) apart) in
    elim (cases_Bool (is_row_open r)) [ inl t ↦ rw (t, eq-eqb r.job.ticket k same) rest | inr t ↦ rw t rest ]

-- a row with another ticket is left
row_left : (k : ℕ) (r : Row) (rs qs : List Row) → row_has_ticket k r ≡ false → open_jobs qs ≡ jobs_without k (open_jobs rs) → open_jobs (r ∷ qs) ≡ jobs_without k (open_jobs (r ∷ rs))
row_left k r rs qs other rest = elim (cases_Bool (is_row_open r)) [ inl t ↦ rw (t, other) (ap (λ js. job_of_row r ∷ js) rest) | inr t ↦ rw t rest ]

-- a strike closes the open job of the ticket
pub struck_open : (k : ℕ) (rows : List Row) → Newest rows → open_jobs (rows_with_last k row_struck rows) ≡ jobs_without k (open_jobs rows)
struck_open k [] newest = refl
struck_open k (r ∷ rs) newest = elim (cases_Bool (row_has_ticket k r)) [
  | inl t ↦ rw t (sym (without_last k r rs (eqb-true r.job.ticket k t) newest.0))
  | inr t ↦ rw t (row_left k r rs (rows_with_last k row_struck rs) t (struck_open k rs newest.1))
]

-- and leaves only the last row with a ticket open
pub struck_newest : (k : ℕ) (rows : List Row) → Newest rows → Newest (rows_with_last k row_struck rows)
struck_newest k [] newest = tt
struck_newest k (r ∷ rs) newest = elim (cases_Bool (row_has_ticket k r)) [
  | inl t ↦ rw t newest
  | inr t ↦
      rw t (
        rw (struck_open k rs newest.1) (All-filter (λ (j : Job). not (j.ticket == k)) (λ j. j.ticket ≢ r.job.ticket) (open_jobs rs) newest.0),
        struck_newest k rs newest.1,
      )
]

-- and gives no units
pub struck_within : (k : ℕ) (rows : List Row) → Within rows → Within (rows_with_last k row_struck rows)
struck_within k rows within = within_changed k row_struck rows (λ r le. le) within

-- no open job has the ticket where none is found
not_open : (t : ℕ) (js : List Job) → is_open_job t js ≡ false → All (λ j. j.ticket ≢ t) js
not_open t [] none = All-nil (λ (j : Job). j.ticket ≢ t)
not_open t (j ∷ js) none =
    let parts = or_parts (j.ticket == t) (is_open_job t js) none in
    All-cons (λ j. j.ticket ≢ t) j js (eqb-false j.ticket t parts.0) (not_open t js parts.1)

-- a new row, where no open job has its ticket
pub newest_new : (j : Job) (rows : List Row) → is_open_job j.ticket (open_jobs rows) ≡ false → Newest rows → Newest (row_of j ∷ rows)
newest_new j rows none newest = (not_open j.ticket (open_jobs rows) none, newest)

-- it has had nothing
job_new : (j : Job) → job_of_row (row_of j) ≡ j
job_new j = let e : j.work - 0 ≡ j.work = omega arith in λ i. record j { work = e i }

-- so its job is the one that was offered
pub open_new : (j : Job) (rows : List Row) → 0 < j.work → open_jobs (row_of j ∷ rows) ≡ j ∷ open_jobs rows
open_new j rows some = rw (lt-ltb 0 j.work some) (ap (λ k. k ∷ open_jobs rows) (job_new j))

-- the rows of a loaded book: their open jobs are its jobs
pub loaded_open : (jobs : List Job) → All (λ j. 0 < j.work) jobs → open_jobs (map row_of jobs) ≡ jobs
loaded_open [] all = refl
loaded_open (j ∷ js) all =
    open_new j (map row_of js) (All-head (λ j. 0 < j.work) j js all) ∙ ap (λ ks. j ∷ ks) (loaded_open js (All-tail (λ j. 0 < j.work) j js all))

-- whose tickets differ
pub loaded_newest : (jobs : List Job) → All (λ j. 0 < j.work) jobs → AllPairs (λ j k. j.ticket ≢ k.ticket) jobs → Newest (map row_of jobs)
loaded_newest [] all differ = tt
loaded_newest (j ∷ js) all differ =
    let behind = All-tail (λ j. 0 < j.work) j js all in
    let others = AllPairs-head (λ j k. j.ticket ≢ k.ticket) j js differ in (
      rw (loaded_open js behind) (All-weaker (λ k. j.ticket ≢ k.ticket) (λ k. k.ticket ≢ j.ticket) (λ k ne e. ne (sym e)) js others),
      loaded_newest js behind (AllPairs-tail (λ j k. j.ticket ≢ k.ticket) j js differ),
    )

-- and which have had nothing
pub loaded_within : (jobs : List Job) → Within (map row_of jobs)
loaded_within jobs = All-map (λ r. r.had ≤ r.job.work) row_of jobs (λ k d lt. omega arith)
