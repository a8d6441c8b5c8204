-- Serving the ready jobs of a tick, one after the other.
use Rattle.std.proofs.Common.{◌≡◌, ℕ, suc, ◌+◌, ◌-◌, ◌<◌, ◌≤◌, min, true, false, nat_le, nat_lt, inl, inr, List, [], ◌∷◌, ◌++◌, ◌∙◌, length, map, take, drop, get_or, set, refl, sym, ap, subst, arith, append_assoc}
use Rattle.std.specs.List.{All}
use Rattle.std.specs.List.Sorted.{IsPermutation}
use Rattle.std.proofs.Math.Seq.{drop-cons, set-append_seam, get_or-append_seam}
use Rattle.std.proofs.lemmas.List.{length-append, length-drop, append-nil}
use Rattle.std.proofs.lemmas.Bool.{cases_Bool}
use Rattle.std.proofs.lemmas.Bool.Decides.{nat_tests}
use Rattle.std.proofs.lemmas.List.Elements.{All-head, All-tail}
use Rattle.queue.specs.declared.ready.ReadyJob.{ReadyJob}
use Rattle.queue.specs.Elements.{is_ready_before}
use Rattle.queue.specs.Slots.{Slots, elements_of}
use Rattle.queue.specs.Says.{Removed}
use Rattle.schedule.specs.Edf.{given}
use Rattle.layout.specs.declared.job.Job.{Job}
use Rattle.book.specs.declared.tick.Entry.{Entry}
use Rattle.book.specs.Jobs.{is_before}
use Rattle.book.specs.Demands.{demand}
use Rattle.book.specs.Book.{IsOpenAt, IsInOrder}
use Rattle.book.specs.Ready.{ready_job, ready_jobs}
use Rattle.book.specs.Ticks.{grants, worked_job, entry_of, entries_of, has_work}
use Rattle.book.specs.Lists.{list_with}
use Rattle.book.proofs.Jobs.{AllPairs-head, AllPairs-tail}
use Rattle.book.proofs.Ready.{Alike, alike, first_taken, ready_after, alike_length, alike_none}

-- what a job gets
busy : (now u : ℕ) (j : Job) → nat_le j.arrival now ≡ true → given u (demand now j) ≡ min j.work u
busy now u j begun = grind (arith, nat_tests)

idle : (now u : ℕ) (j : Job) → nat_le j.arrival now ≡ false → given u (demand now j) ≡ 0
idle now u j later = grind (arith, nat_tests)

-- what is left of jobs, and the entries, after u units
abbrev pub jobs_then : ℕ → ℕ → List Job → List Job
jobs_then now u js = map worked_job (grants now u js)

abbrev pub entries_then : ℕ → ℕ → List Job → List Entry
entries_then now u js = entries_of (grants now u js)

worked_none : (j : Job) → worked_job (j, 0) ≡ j
worked_none j = let e : j.work - 0 ≡ j.work = omega arith in λ i. record { ticket = j.ticket; arrival = j.arrival; deadline = j.deadline; work = e i }

-- the first of the jobs whose window has begun, behind those that get nothing
pub record Begun (now u : ℕ) (pre rest : List Job) : Type 0 where
  pub before : List Job
  pub job : Job
  pub after : List Job
  pub same : before ++ job ∷ after ≡ pre ++ rest
  pub begun : nat_le job.arrival now ≡ true
  pub working : All (λ j. has_work j ≡ true) (job ∷ after)
  pub order : IsInOrder (job ∷ after)
  pub queue : ready_jobs now (length before) (job ∷ after) ≡ ready_jobs now (length pre) rest
  pub jobs : before ++ jobs_then now u (job ∷ after) ≡ pre ++ jobs_then now u rest
  pub entries_same : entries_then now u (job ∷ after) ≡ entries_then now u rest
  pub fewer : length (job ∷ after) ≤ length rest

-- a job that has not begun gets nothing
idle_jobs : (now u : ℕ) (j : Job) (js : List Job) → nat_le j.arrival now ≡ false → jobs_then now u (j ∷ js) ≡ j ∷ jobs_then now u js
idle_jobs now u j js later =
    let none = idle now u j later in
    let all : u - 0 ≡ u = omega arith in
    subst (λ g. (worked_job (j, g) ∷ map worked_job (grants now (u - g) js)) ≡ j ∷ jobs_then now u js) (sym none) (λ i. worked_none j i ∷ jobs_then now (all i) js)

idle_entries : (now u : ℕ) (j : Job) (js : List Job) → nat_le j.arrival now ≡ false → entries_then now u (j ∷ js) ≡ entries_then now u js
idle_entries now u j js later =
    let none = idle now u j later in
    let all : u - 0 ≡ u = omega arith in
    subst (λ g. entries_of ((j, g) ∷ grants now (u - g) js) ≡ entries_then now u js) (sym none) (λ i. entries_then now (all i) js)

pub skip : (now u : ℕ) (pre rest : List Job) → All (λ j. has_work j ≡ true) rest → IsInOrder rest → 0 < length (ready_jobs now (length pre) rest) → Begun now u pre rest
skip now u pre [] working order some = absurd (omega arith)
skip now u pre (j ∷ js) working order some = elim (cases_Bool (nat_le j.arrival now)) [
  | inl t ↦ record {
    before = pre;
    job = j;
    after = js;
    same = refl;
    begun = t;
    working = working;
    order = order;
    queue = refl;
    jobs = refl;
    entries_same = refl;
    fewer = omega arith;
  }
  | inr t ↦
      let one : length (pre ++ j ∷ []) ≡ length pre + 1 = omega (arith, length-append pre (j ∷ [])) in
      let rest_ready : ready_jobs now (length (pre ++ j ∷ [])) js ≡ ready_jobs now (length pre) (j ∷ js) = rw (t, one) refl in
      let r = skip now u (pre ++ j ∷ []) js (All-tail (λ j. has_work j ≡ true) j js working) (AllPairs-tail (λ i k. is_before i k ≡ true) j js order) (omega (arith, ap length rest_ready)) in
      record {
        before = r.before;
        job = r.job;
        after = r.after;
        same = r.same ∙ append_assoc pre (j ∷ []) js;
        begun = r.begun;
        working = r.working;
        order = r.order;
        queue = r.queue ∙ rest_ready;
        jobs = r.jobs ∙ append_assoc pre (j ∷ []) (jobs_then now u js) ∙ ap (λ xs. pre ++ xs) (sym (idle_jobs now u j js t));
        entries_same = r.entries_same ∙ sym (idle_entries now u j js t);
        fewer = omega (arith, r.fewer);
      }
]

-- what serving begins with: now, the units of the setting, the jobs, and the list for the entries
pub record Start : Type 0 where
  pub now : ℕ
  pub units : ℕ
  pub jobs : List Job
  pub list : List Entry

-- where it stands: the units that are left, how many entries are written, and what jobs, list and queue are by then
pub record State : Type 0 where
  pub left : ℕ
  pub count : ℕ
  pub jobs : List Job
  pub list : List Entry
  pub queue : List ReadyJob

-- the jobs of `pre` are served or passed over, those of `rest` are not yet, and the queue holds the ready jobs of
-- `rest`; what is done and what is still to come make up what the whole setting comes to
pub record WhileServing (start : Start) (state : State) : Type 0 where
  pub pre : List Job
  pub rest : List Job
  pub done : List Entry
  pub jobs_are : pre ++ rest ≡ state.jobs
  pub working : All (λ j. has_work j ≡ true) rest
  pub order : IsInOrder rest
  pub queued : Alike (ready_jobs start.now (length pre) rest) state.queue
  pub jobs_end : pre ++ jobs_then start.now state.left rest ≡ jobs_then start.now start.units start.jobs
  pub counted : length done ≡ state.count
  pub room : length done + length rest ≤ 64
  pub list_is : state.list ≡ list_with done start.list
  pub entries_end : done ++ entries_then start.now state.left rest ≡ entries_then start.now start.units start.jobs

-- a job whose window has begun does its work, or what is left of the units if that is less
served_jobs : (now u : ℕ) (j : Job) (js : List Job) → nat_le j.arrival now ≡ true → jobs_then now u (j ∷ js) ≡ worked_job (j, min j.work u) ∷ jobs_then now (u - min j.work u) js
served_jobs now u j js begun = ap (λ g. worked_job (j, g) ∷ map worked_job (grants now (u - g) js)) (busy now u j begun)

served_entries : (now u : ℕ) (j : Job) (js : List Job) → nat_le j.arrival now ≡ true → has_work j ≡ true → 0 < u
    → entries_then now u (j ∷ js) ≡ entry_of (j, min j.work u) ∷ entries_then now (u - min j.work u) js
served_entries now u j js begun working some =
    let t : nat_lt 0 (min j.work u) ≡ true = grind (arith, nat_tests) in
    ap (λ g. entries_of ((j, g) ∷ grants now (u - g) js)) (busy now u j begun) ∙ rw t refl

-- an entry more is written
more_entries : (es list : List Entry) (e : Entry) → length es < length list → set (list_with es list) (length es) e ≡ list_with (es ++ e ∷ []) list
more_entries es list e lt =
    let long : length (es ++ e ∷ []) ≡ suc (length es) = omega (arith, length-append es (e ∷ [])) in
    rw (long, drop-cons list (length es) e lt, set-append_seam es (get_or list (length es) e) (drop (suc (length es)) list) e, append_assoc es (e ∷ []) (drop (suc (length es)) list)) refl

-- a take of the queue gives the next job to be served, behind those that get nothing
module _ (start : Start) (state : State) (x : ReadyJob) (q r : Slots ReadyJob) (s : WhileServing start state)
    (held : state.queue ≡ elements_of q) (some : 0 < state.left) (long : 64 ≤ length start.list)
    (taken : Removed is_ready_before x q r) where
  queued : Alike (ready_jobs start.now (length s.pre) s.rest) (elements_of q)
  queued = subst (Alike (ready_jobs start.now (length s.pre) s.rest)) held s.queued

  nonempty : 0 < length (ready_jobs start.now (length s.pre) s.rest)
  nonempty = alike_length (ready_jobs start.now (length s.pre) s.rest) (elements_of q) x (elements_of r) queued taken.holds

  pub next_begun : Begun start.now state.left s.pre s.rest
  next_begun = skip start.now state.left s.pre s.rest s.working s.order nonempty

  abbrev pub next_job : Job
  next_job = next_begun.job

  -- what it gets
  abbrev pub next_units : ℕ
  next_units = min next_begun.job.work state.left

  queue_is : ready_jobs start.now (length next_begun.before) (next_begun.job ∷ next_begun.after)
      ≡ ready_job (length next_begun.before) next_begun.job
      ∷ ready_jobs start.now (length next_begun.before + 1) next_begun.after
  queue_is = rw next_begun.begun refl

  is_next : (ready_job (length next_begun.before) next_begun.job ≡ x)
      × Alike (ready_jobs start.now (length next_begun.before + 1) next_begun.after) (elements_of r)
  is_next =
      let b = next_begun in
      let now = start.now in
      first_taken x (ready_job (length b.before) b.job) (ready_jobs now (length b.before + 1) b.after) (elements_of q) (elements_of r)
      (subst (λ xs. Alike xs (elements_of q)) (sym b.queue ∙ queue_is) queued)
      (ready_after now (length b.before) (length b.before + 1) b.job b.after (AllPairs-head (λ i k. is_before i k ≡ true) b.job b.after b.order)) taken.holds taken.least

  split : next_begun.before ++ next_begun.job ∷ next_begun.after ≡ state.jobs
  split = next_begun.same ∙ s.jobs_are

  index_is : length next_begun.before ≡ x.index
  index_is = ap (λ (z : ReadyJob). z.index) is_next.0

  first_works : has_work next_begun.job ≡ true
  first_works = All-head (λ j. has_work j ≡ true) next_begun.job next_begun.after next_begun.working

  -- it is one of the jobs, at the index that the queue tells
  pub next_bound : x.index < length state.jobs
  next_bound = omega (arith, index_is, ap length split, length-append next_begun.before (next_begun.job ∷ next_begun.after))

  pub next_is : (d : Job) → get_or state.jobs x.index d ≡ next_job
  next_is d =
      sym (ap (λ n. get_or state.jobs n d) index_is)
      ∙ (sym (ap (λ xs. get_or xs (length next_begun.before) d) split) ∙ get_or-append_seam next_begun.before next_begun.job next_begun.after d)

  -- there is room for its entry
  pub next_room : state.count < length state.list
  next_room = omega (arith, s.counted, s.room, next_begun.fewer, ap length s.list_is, length-append s.done (drop (length s.done) start.list), length-drop (length s.done) start.list)

  -- the state once it is served
  abbrev pub next_state : State
  next_state = record {
    left = state.left - next_units;
    count = state.count + 1;
    jobs = set state.jobs x.index (worked_job (next_job, next_units));
    list = set state.list state.count (entry_of (next_job, next_units));
    queue = elements_of r;
  }

  pub next_serving : WhileServing start next_state
  next_serving =
      let b = next_begun in
      let now = start.now in
      let w = worked_job (b.job, next_units) in
      let e = entry_of (b.job, next_units) in
      let one_job : length (b.before ++ w ∷ []) ≡ length b.before + 1 = omega (arith, length-append b.before (w ∷ [])) in
      record {
        pre = b.before ++ w ∷ [];
        rest = b.after;
        done = s.done ++ e ∷ [];
        jobs_are =
            append_assoc b.before (w ∷ []) b.after ∙ sym (set-append_seam b.before b.job b.after w)
            ∙ ap (λ xs. set xs (length b.before) w) split ∙ ap (λ n. set state.jobs n w) index_is;
        working = All-tail (λ j. has_work j ≡ true) b.job b.after b.working;
        order = AllPairs-tail (λ i k. is_before i k ≡ true) b.job b.after b.order;
        queued = subst (λ n. Alike (ready_jobs now n b.after) (elements_of r)) (sym one_job) is_next.1;
        jobs_end =
            append_assoc b.before (w ∷ []) (jobs_then now (state.left - next_units) b.after)
            ∙ ap (λ xs. b.before ++ xs) (sym (served_jobs now state.left b.job b.after b.begun)) ∙ b.jobs ∙ s.jobs_end;
        counted = omega (arith, length-append s.done (e ∷ []), s.counted);
        room = omega (arith, length-append s.done (e ∷ []), s.room, b.fewer);
        list_is =
            ap (λ xs. set xs state.count e) s.list_is ∙ ap (λ n. set (list_with s.done start.list) n e) (sym s.counted)
            ∙ more_entries s.done start.list e (omega (arith, s.room, b.fewer));
        entries_end =
            append_assoc s.done (e ∷ []) (entries_then now (state.left - next_units) b.after)
            ∙ ap (λ xs. s.done ++ xs) (sym (served_entries now state.left b.job b.after b.begun first_works some) ∙ b.entries_same) ∙ s.entries_end;
      }

-- what serving leaves at its end
pub record AfterServing (start : Start) (state : State) : Type 0 where
  pub jobs_are : state.jobs ≡ jobs_then start.now start.units start.jobs
  pub list_is : state.list ≡ list_with (entries_then start.now start.units start.jobs) start.list
  pub count_is : state.count ≡ length (entries_then start.now start.units start.jobs)

-- no units are left
none_left : (now : ℕ) (js : List Job) → (jobs_then now 0 js ≡ js) × (entries_then now 0 js ≡ [])
none_left now [] = (refl, refl)
none_left now (j ∷ js) =
    let rest = none_left now js in
    let none : given 0 (demand now j) ≡ 0 = grind (arith, nat_tests) in (
      ap (λ g. worked_job (j, g) ∷ map worked_job (grants now (0 - g) js)) none ∙ (λ i. worked_none j i ∷ rest.0 i),
      ap (λ g. entries_of ((j, g) ∷ grants now (0 - g) js)) none ∙ rest.1,
    )

-- or no ready job is
none_ready : (now u k : ℕ) (js : List Job) → length (ready_jobs now k js) ≡ 0 → (jobs_then now u js ≡ js) × (entries_then now u js ≡ [])
none_ready now u k [] none = (refl, refl)
none_ready now u k (j ∷ js) none = elim (cases_Bool (nat_le j.arrival now)) [
  | inl t ↦ let some : length (ready_jobs now k (j ∷ js)) ≡ suc (length (ready_jobs now (k + 1) js)) = rw t refl in absurd (omega arith)
  | inr t ↦
      let same : ready_jobs now k (j ∷ js) ≡ ready_jobs now (k + 1) js = rw t refl in
      let rest = none_ready now u (k + 1) js (omega (arith, ap length same)) in
      (idle_jobs now u j js t ∙ ap (λ xs. j ∷ xs) rest.0, idle_entries now u j js t ∙ rest.1)
]

module _ (start : Start) (state : State) (s : WhileServing start state) where
  ended : (jobs_then start.now state.left s.rest ≡ s.rest) × (entries_then start.now state.left s.rest ≡ []) → AfterServing start state
  ended same =
      let written : s.done ≡ entries_then start.now start.units start.jobs =
      sym (append-nil s.done) ∙ (sym (ap (λ xs. s.done ++ xs) same.1) ∙ s.entries_end) in
      record {
        jobs_are = sym s.jobs_are ∙ (sym (ap (λ xs. s.pre ++ xs) same.0) ∙ s.jobs_end);
        list_is = s.list_is ∙ ap (λ es. list_with es start.list) written;
        count_is = sym s.counted ∙ ap length written;
      }

  pub used_up : state.left ≡ 0 → AfterServing start state
  used_up none =
      ended (subst (λ u. (jobs_then start.now u s.rest ≡ s.rest) × (entries_then start.now u s.rest ≡ [])) (sym none) (none_left start.now s.rest))

  pub all_served : (q : Slots ReadyJob) → state.queue ≡ elements_of q → q.count ≡ 0 → AfterServing start state
  all_served q held none =
      let empty : state.queue ≡ [] = held ∙ ap (λ n. take n q.slots) none in
      ended (none_ready start.now state.left (length s.pre) s.rest (alike_none (ready_jobs start.now (length s.pre) s.rest) state.queue s.queued empty))

-- the state at the start
abbrev pub first_state : Start → List ReadyJob → State
first_state start queue = record { left = start.units; count = 0; jobs = start.jobs; list = start.list; queue = queue }

-- at the start none is served
pub started : (start : Start) (queue : List ReadyJob) → length start.jobs ≤ 64 → IsInOrder start.jobs → All (IsOpenAt start.now) start.jobs
    → IsPermutation (ready_jobs start.now 0 start.jobs) queue → WhileServing start (first_state start queue)
started start queue few order open_at queued = record {
  pre = [];
  rest = start.jobs;
  done = [];
  jobs_are = refl;
  working = λ k d lt. let h = open_at k d lt in grind (arith, nat_tests);
  order = order;
  queued = alike (ready_jobs start.now 0 start.jobs) queue queued;
  jobs_end = refl;
  counted = refl;
  room = omega arith;
  list_is = refl;
  entries_end = refl;
}
