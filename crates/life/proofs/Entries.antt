-- What the entries of a tick make of the open jobs, one entry after the other.
use Rattle.std.proofs.Common.{◌≡◌, ◌≢◌, ℕ, zero, suc, ◌-◌, ◌<◌, ◌≤◌, true, cond, if◌then◌else◌, inl, inr, List, [], ◌∷◌, ◌∙◌, ◌⊎◌, map, length, get_or, refl, sym, ap, arith, nat_lt}
use Rattle.std.specs.List.{All, AllPairs, Contains, filter}
use Rattle.std.specs.List.Sorted.{IsPermutation}
use Rattle.std.proofs.lemmas.Bool.{cases_Bool, eq-eqb, ne_eqb, lt-ltb, ltb-true, ltb-false}
use Rattle.std.proofs.lemmas.Bool.Decides.{nat_tests}
use Rattle.std.proofs.lemmas.List.Elements.{All-nil, All-head, All-tail, All-cons, All-map, All-filter, All-weaker}
use Rattle.std.proofs.lemmas.List.Kept.{AllPairs-cons}
use Rattle.std.proofs.lemmas.List.Sorted.{IsPermutation-map, Contains-permutation}
use Rattle.schedule.specs.Edf.{given as edf_given}
use Rattle.layout.specs.declared.job.Job.{Job}
use Rattle.book.specs.declared.tick.Entry.{Entry}
use Rattle.book.specs.Jobs.{has_ticket}
use Rattle.book.specs.Demands.{demand}
use Rattle.book.specs.Book.{IsOpenAt}
use Rattle.book.specs.Ticks.{grants, worked_job, entry_of, entries_of, has_work}
use Rattle.book.proofs.Jobs.{AllPairs-head, AllPairs-tail}
use Rattle.life.proofs.Reordering.{IsPermutation-filter}

-- what an entry leaves of a job: units less, where it is for that job
abbrev pub job_after : Entry → Job → Job
job_after e j = if has_ticket e.ticket j then worked_job (j, e.units) else j

-- the open jobs after an entry, and after several
abbrev pub jobs_after : Entry → List Job → List Job
jobs_after e js = filter has_work (map (job_after e) js)

abbrev pub jobs_after_all : List Entry → List Job → List Job
jobs_after_all [] js = js
jobs_after_all (e ∷ es) js = jobs_after_all es (jobs_after e js)

-- an entry leaves the jobs with other tickets
pub jobs_after_others : (e : Entry) (js : List Job) → All (λ j. j.ticket ≢ e.ticket) js → All (λ j. has_work j ≡ true) js → jobs_after e js ≡ js
jobs_after_others e [] others works = refl
jobs_after_others e (j ∷ js) others works =
    let here = All-head (λ j. j.ticket ≢ e.ticket) j js others in
    let rest = jobs_after_others e js (All-tail (λ j. j.ticket ≢ e.ticket) j js others) (All-tail (λ j. has_work j ≡ true) j js works) in
    rw (ne_eqb j.ticket e.ticket here, All-head (λ j. has_work j ≡ true) j js works, rest)

-- so entries for other jobs leave the first
jobs_after_all_behind : (es : List Entry) (j : Job) (js : List Job) → All (λ e. j.ticket ≢ e.ticket) es → has_work j ≡ true → jobs_after_all es (j ∷ js) ≡ j ∷ jobs_after_all es js
jobs_after_all_behind [] j js others works = refl
jobs_after_all_behind (e ∷ es) j js others works =
    let here = All-head (λ (e : Entry). j.ticket ≢ e.ticket) e es others in
    rw (ne_eqb j.ticket e.ticket here, works) (jobs_after_all_behind es j (jobs_after e js) (All-tail (λ (e : Entry). j.ticket ≢ e.ticket) e es others) works)

-- the order of the jobs does not count
pub jobs_after_all_permutation : (es : List Entry) (js ks : List Job) → IsPermutation js ks → IsPermutation (jobs_after_all es js) (jobs_after_all es ks)
jobs_after_all_permutation [] js ks h = h
jobs_after_all_permutation (e ∷ es) js ks h =
    jobs_after_all_permutation es (jobs_after e js) (jobs_after e ks) (IsPermutation-filter has_work (map (job_after e) js) (map (job_after e) ks) (IsPermutation-map (job_after e) js ks h))

-- the entries of grants have the tickets of their jobs
entries_other : (t : ℕ) (ss : List (Job × ℕ)) → All (λ s. t ≢ s.0.ticket) ss → All (λ e. t ≢ e.ticket) (entries_of ss)
entries_other t ss others =
    All-map (λ e. t ≢ e.ticket) entry_of (filter (λ s. nat_lt 0 s.1) ss) (All-filter (λ s. nat_lt 0 s.1) (λ s. t ≢ s.0.ticket) ss others)

-- and different ones, where those differ
pub entries_differ : (ss : List (Job × ℕ)) → AllPairs (λ s r. s.0.ticket ≢ r.0.ticket) ss → AllPairs (λ e f. e.ticket ≢ f.ticket) (entries_of ss)
entries_differ [] differ = λ i j d lt below. absurd (omega arith)
entries_differ (s ∷ ss) differ =
    let rest = entries_differ ss (AllPairs-tail (λ s r. s.0.ticket ≢ r.0.ticket) s ss differ) in
    let others = AllPairs-head (λ s r. s.0.ticket ≢ r.0.ticket) s ss differ in
    elim (cases_Bool (nat_lt 0 s.1)) [
      | inl t ↦ rw t (AllPairs-cons (λ e f. e.ticket ≢ f.ticket) (entry_of s) (entries_of ss) (entries_other s.0.ticket ss others) rest)
      | inr t ↦ rw t rest
    ]

abbrev pub jobs_of : List (Job × ℕ) → List Job
jobs_of ss = map (λ s. s.0) ss

jobs_other : (t : ℕ) (ss : List (Job × ℕ)) → All (λ s. t ≢ s.0.ticket) ss → All (λ j. j.ticket ≢ t) (jobs_of ss)
jobs_other t ss others = All-map (λ j. j.ticket ≢ t) (λ (s : Job × ℕ). s.0) ss (All-weaker (λ s. t ≢ s.0.ticket) (λ s. s.0.ticket ≢ t) (λ s ne same. ne (sym same)) ss others)

-- the first of the jobs after its entry
first_after : (s : Job × ℕ) (js : List Job) → All (λ j. j.ticket ≢ s.0.ticket) js → All (λ j. has_work j ≡ true) js
    → jobs_after (entry_of s) (s.0 ∷ js) ≡ cond (has_work (worked_job s)) (worked_job s ∷ js) js
first_after s js others works = rw (eq-eqb s.0.ticket s.0.ticket refl, jobs_after_others (entry_of s) js others works)

-- a grant of nothing leaves the job
grant_none : (s : Job × ℕ) → s.1 ≡ 0 → worked_job s ≡ s.0
grant_none s none = let e : s.0.work - s.1 ≡ s.0.work = omega arith in λ i. record { ticket = s.0.ticket; arrival = s.0.arrival; deadline = s.0.deadline; work = e i }

first_idle : (s : Job × ℕ) (js : List Job) → s.1 ≡ 0 → has_work s.0 ≡ true → s.0 ∷ js ≡ cond (has_work (worked_job s)) (worked_job s ∷ js) js
first_idle s js none works =
    let same = grant_none s none in
    let still : has_work (worked_job s) ≡ true = ap has_work same ∙ works in
    rw still (ap (λ j. j ∷ js) (sym same))

-- the entries of grants leave of their jobs what the grants leave
pub grants_after : (ss : List (Job × ℕ)) → AllPairs (λ s r. s.0.ticket ≢ r.0.ticket) ss → All (λ s. has_work s.0 ≡ true) ss
    → jobs_after_all (entries_of ss) (jobs_of ss) ≡ filter has_work (map worked_job ss)
grants_after [] differ works = refl
grants_after (s ∷ ss) differ works =
    let others = AllPairs-head (λ s r. s.0.ticket ≢ r.0.ticket) s ss differ in
    let works_here = All-head (λ s. has_work s.0 ≡ true) s ss works in
    let works_behind = All-tail (λ s. has_work s.0 ≡ true) s ss works in
    let js = jobs_of ss in
    let rest = grants_after ss (AllPairs-tail (λ s r. s.0.ticket ≢ r.0.ticket) s ss differ) works_behind in
    let whole : jobs_after_all (entries_of ss) (cond (has_work (worked_job s)) (worked_job s ∷ js) js) ≡ filter has_work (map worked_job (s ∷ ss)) = elim (cases_Bool (has_work (worked_job s))) [
      | inl u ↦ rw u (jobs_after_all_behind (entries_of ss) (worked_job s) js (entries_other s.0.ticket ss others) u ∙ ap (λ ks. worked_job s ∷ ks) rest)
      | inr u ↦ rw u rest
    ] in
    elim (cases_Bool (nat_lt 0 s.1)) [
      | inl t ↦
          let apart = jobs_other s.0.ticket ss others in
          rw t (ap (jobs_after_all (entries_of ss)) (first_after s js apart (All-map (λ j. has_work j ≡ true) (λ (r : Job × ℕ). r.0) ss works_behind)) ∙ whole)
      | inr t ↦ rw t (ap (jobs_after_all (entries_of ss)) (first_idle s js (omega (arith, ltb-false 0 s.1 t)) works_here) ∙ whole)
    ]

-- an entry is for one of the jobs: one or more units, no more than its work left, and now is in its window
pub record ForJob (now : ℕ) (js : List Job) (e : Entry) : Type 0 where
  pub job : Job
  pub among : Contains js job
  pub same_ticket : job.ticket ≡ e.ticket
  pub some_units : 0 < e.units
  pub enough_left : e.units ≤ job.work
  pub begun : job.arrival ≤ now
  pub not_over : now < job.deadline

-- so it is for one of any other jobs with that one
for_job_in : (now : ℕ) (js ks : List Job) (e : Entry) (d : ForJob now js e) → Contains ks d.job → ForJob now ks e
for_job_in now js ks e d among = record {
  job = d.job;
  among = among;
  same_ticket = d.same_ticket;
  some_units = d.some_units;
  enough_left = d.enough_left;
  begun = d.begun;
  not_over = d.not_over;
}

contains_behind : (j k : Job) (js : List Job) → Contains js j → Contains (k ∷ js) j
contains_behind j k js c = (suc c.0, omega (arith, c.1), c.2)

-- as the jobs in another order
pub for_job_permutation : (now : ℕ) (js ks : List Job) → IsPermutation js ks → (e : Entry) → ForJob now js e → ForJob now ks e
for_job_permutation now js ks h e d = for_job_in now js ks e d (Contains-permutation js ks d.job h d.among)

-- the first of the jobs, or one behind it
pub contains_cases : (j k : Job) (js : List Job) → Contains (k ∷ js) j → (k ≡ j) ⊎ Contains js j
contains_cases j k js c = at c.0 c.1 c.2
  where
    at : (n : ℕ) → n < suc (length js) → get_or (k ∷ js) n j ≡ j → (k ≡ j) ⊎ Contains js j
    at zero lt same = inl same
    at (suc n) lt same = inr (n, omega arith, same)

-- an entry leaves the jobs of others
contains_after : (e : Entry) (j : Job) (js : List Job) → j.ticket ≢ e.ticket → has_work j ≡ true → Contains js j → Contains (jobs_after e js) j
contains_after e j [] other works c = absurd (omega (arith, c.1))
contains_after e j (k ∷ js) other works c = elim (contains_cases j k js c) [
  | inl same ↦ rw (same, ne_eqb j.ticket e.ticket other, works) (0, omega arith, refl)
  | inr behind ↦
      let rest = contains_after e j js other works behind in
      elim (cases_Bool (has_work (job_after e k))) [ inl t ↦ rw t (contains_behind j (job_after e k) (jobs_after e js) rest) | inr t ↦ rw t rest ]
]

-- so an entry for one of them still is
pub for_job_after : (now : ℕ) (e f : Entry) (js : List Job) → e.ticket ≢ f.ticket → ForJob now js f → ForJob now (jobs_after e js) f
for_job_after now e f js differ d =
    for_job_in now js (jobs_after e js) f d (contains_after e d.job js (λ same. differ (sym same ∙ d.same_ticket)) (lt-ltb 0 d.job.work (omega (arith, d.some_units, d.enough_left))) d.among)

-- a grant gives its job no more units than its work left, and some only in its window
pub record SoundGrant (now : ℕ) (s : Job × ℕ) : Type 0 where
  pub enough_left : s.1 ≤ s.0.work
  pub begun : 0 < s.1 → s.0.arrival ≤ now
  pub not_over : now < s.0.deadline

-- the entries of such grants are for their jobs
pub entries_for_jobs : (now : ℕ) (ss : List (Job × ℕ)) → All (SoundGrant now) ss → All (ForJob now (jobs_of ss)) (entries_of ss)
entries_for_jobs now [] sound = All-nil (ForJob now [])
entries_for_jobs now (s ∷ ss) sound =
    let h = All-head (SoundGrant now) s ss sound in
    let behind = All-weaker (ForJob now (jobs_of ss)) (ForJob now (s.0 ∷ jobs_of ss)) (λ e d. for_job_in now (jobs_of ss) (s.0 ∷ jobs_of ss) e d (contains_behind d.job s.0 (jobs_of ss) d.among))
    (entries_of ss) (entries_for_jobs now ss (All-tail (SoundGrant now) s ss sound)) in
    elim (cases_Bool (nat_lt 0 s.1)) [
      | inl t ↦
          let some = ltb-true 0 s.1 t in
          let first : ForJob now (s.0 ∷ jobs_of ss) (entry_of s) = record {
            job = s.0;
            among = (0, omega arith, refl);
            same_ticket = refl;
            some_units = some;
            enough_left = h.enough_left;
            begun = h.begun some;
            not_over = h.not_over;
          } in
          rw t (All-cons (ForJob now (s.0 ∷ jobs_of ss)) (entry_of s) (entries_of ss) first behind)
      | inr t ↦ rw t behind
    ]

-- the grants of a tick are those of the jobs
pub jobs_granted : (now u : ℕ) (js : List Job) → jobs_of (grants now u js) ≡ js
jobs_granted now u [] = refl
jobs_granted now u (j ∷ js) = ap (λ ks. j ∷ ks) (jobs_granted now (u - edf_given u (demand now j)) js)

-- what holds of all jobs, and of all pairs of them, holds of their grants
pub all_granted : (P : Job → Type 0) (now u : ℕ) (js : List Job) → All P js → All (λ s. P s.0) (grants now u js)
all_granted P now u [] all = All-nil (λ (s : Job × ℕ). P s.0)
all_granted P now u (j ∷ js) all =
    let g = edf_given u (demand now j) in
    All-cons (λ s. P s.0) (j, g) (grants now (u - g) js) (All-head P j js all) (all_granted P now (u - g) js (All-tail P j js all))

pub pairs_granted : (R : Job → Job → Type 0) (now u : ℕ) (js : List Job) → AllPairs R js → AllPairs (λ s r. R s.0 r.0) (grants now u js)
pairs_granted R now u [] pairs = λ a b d lt below. absurd (omega arith)
pairs_granted R now u (j ∷ js) pairs =
    let g = edf_given u (demand now j) in
    AllPairs-cons (λ s r. R s.0 r.0) (j, g) (grants now (u - g) js)
    (all_granted (R j) now (u - g) js (AllPairs-head R j js pairs)) (pairs_granted R now (u - g) js (AllPairs-tail R j js pairs))

-- and they are such grants
pub grants_sound : (now u : ℕ) (js : List Job) → All (IsOpenAt now) js → All (SoundGrant now) (grants now u js)
grants_sound now u [] all = All-nil (SoundGrant now)
grants_sound now u (j ∷ js) all =
    let g = edf_given u (demand now j) in
    let h = All-head (IsOpenAt now) j js all in
    let first : SoundGrant now (j, g) = record { enough_left = grind (arith, nat_tests); begun = λ some. grind (arith, nat_tests); not_over = h.not_due } in
    All-cons (SoundGrant now) (j, g) (grants now (u - g) js) first (grants_sound now (u - g) js (All-tail (IsOpenAt now) j js all))
