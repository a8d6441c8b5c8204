-- What is promised at each moment holds where the tally and the book agree.
use Rattle.std.proofs.Common.{◌≡◌, ℕ, ◌<◌, ◌≤◌, ◌∙◌, false, cond, inl, inr, List, [], ◌∷◌, length, map, drop, get_or, refl, sym, ap, subst, arith}
use Rattle.std.specs.Prelude.{replicate, nat_lt}
use Rattle.std.specs.List.{All, range_with_len}
use Rattle.std.specs.List.Sorted.{IsPermutation}
use Rattle.std.proofs.lemmas.Bool.{cases_Bool}
use Rattle.std.proofs.lemmas.Bool.Decides.{nat_tests}
use Rattle.std.proofs.lemmas.List.{get_or_append_left, length-replicate}
use Rattle.std.proofs.lemmas.List.FromFn.{get_or-map-range_with_len, length-map-range_with_len}
use Rattle.std.proofs.lemmas.List.Elements.{All-head, All-tail, All-cons}
use Rattle.std.proofs.lemmas.List.Sorted.{IsPermutation-sym, IsPermutation-map, All-permutation}
use Rattle.schedule.specs.Demands.{Sound}
use Rattle.schedule.specs.Work.{work, Fits}
use Rattle.schedule.specs.Sharing.{Does}
use Rattle.schedule.specs.Settled.{Settled}
use Rattle.schedule.specs.InForce.{horizon, Same}
use Rattle.schedule.proofs.SettledLaws.{settled_same}
use Rattle.schedule.proofs.SumsLaws.{upto_same}
use Rattle.schedule.proofs.Theory.{theory}
use Rattle.schedule.proofs.WorkLaws.{work_any_order}
use Rattle.layout.specs.declared.job.Job.{Job}
use Rattle.book.specs.Demands.{demand, demands}
use Rattle.book.specs.Book.{View, IsOpenAt}
use Rattle.book.specs.Settings.{settings_of, settings_outcome, list_with_settings}
use Rattle.book.proofs.DemandFacts.{sound-demands}
use Rattle.life.specs.Tally.{Row, Tally, is_row_open, job_of_row, open_jobs}
use Rattle.life.specs.Promises.{written_settings, InTime, Cheapest, Stands}
use Rattle.life.proofs.Rows.{Within}
use Rattle.life.proofs.Agreeing.{Agrees}

-- where each open row has a tick left, each row is in time
rows_in_time : (now : ℕ) (rows : List Row) → All (λ j. now < j.deadline) (open_jobs rows) → Within rows → All (InTime now) rows
rows_in_time now [] open_rows within = λ k d lt. absurd (omega arith)
rows_in_time now (r ∷ rs) open_rows within = elim (cases_Bool (is_row_open r)) [
  | inl t ↦
      let later : All (λ j. now < j.deadline) (job_of_row r ∷ open_jobs rs) = rw t at open_rows in
      let here : now < r.job.deadline = All-head (λ j. now < j.deadline) (job_of_row r) (open_jobs rs) later in
      All-cons (InTime now) r rs
      (record { no_more = All-head (λ r. r.had ≤ r.job.work) r rs within; all_had = λ alive due. absurd (omega arith) })
      (rows_in_time now rs (All-tail (λ j. now < j.deadline) (job_of_row r) (open_jobs rs) later) (All-tail (λ r. r.had ≤ r.job.work) r rs within))
  | inr t ↦
      let later : All (λ j. now < j.deadline) (open_jobs rs) = rw t at open_rows in
      let no_more : r.had ≤ r.job.work = All-head (λ r. r.had ≤ r.job.work) r rs within in
      All-cons (InTime now) r rs
      (record { no_more = no_more; all_had = λ alive due. grind (arith, nat_tests) })
      (rows_in_time now rs later (All-tail (λ r. r.had ≤ r.job.work) r rs within))
]

-- the work of an interval is that of jobs in whatever order
jobs_any_order : (now a b : ℕ) (js ks : List Job) → IsPermutation js ks → work (demands now ks) a b ≡ work (demands now js) a b
jobs_any_order now a b js ks same =
    work_any_order (demands now js) (demands now ks) a b (IsPermutation-map (demand now) js ks same)

-- settings that do the work of jobs do it in any order of the jobs
pub does_any_order : (now : ℕ) (js ks : List Job) (s : ℕ → ℕ) → All (IsOpenAt now) ks → IsPermutation js ks → Does horizon (demands now js) s → Does horizon (demands now ks) s
does_any_order now js ks s open_at same does =
    let before : Sound horizon (demands now js) = sound-demands horizon now js theory.ticks (All-permutation (IsOpenAt now) ks js (IsPermutation-sym js ks same) open_at) in
    let after : Sound horizon (demands now ks) = sound-demands horizon now ks theory.ticks open_at in
    let fits : Fits horizon (demands now js) s = (theory.enough.does horizon (demands now js) s before).0 does in
    (theory.enough.does horizon (demands now ks) s after).1 (λ a b lt le. omega (arith, fits a b lt le, jobs_any_order now a b js ks same))

-- what the question settings writes, given room, are the settings of the book
pub in_force_same : (b : View) → Same horizon (written_settings b) (settings_of b)
in_force_same b t lt =
    let room : List ℕ = replicate horizon 0 in
    let enough : nat_lt (length room) 256 ≡ false = grind (arith, nat_tests, length-replicate {A = ℕ} horizon 0, theory.ticks) in
    let list : (settings_outcome b room).list ≡ list_with_settings b room = rw enough refl in
    let first : get_or (map (settings_of b) (range_with_len 0 horizon)) t 0 ≡ settings_of b t = get_or-map-range_with_len (settings_of b) 0 horizon t t 0 lt (omega arith) in
    ap (λ xs. get_or xs t 0) list
    ∙ get_or_append_left (map (settings_of b) (range_with_len 0 horizon)) (drop horizon room) 0 t (omega (arith, length-map-range_with_len (settings_of b) 0 horizon))
    ∙ first

-- the settings in force do the open work, within the top, and no others that do it draw less
cheapest : (t : Tally) (b : View) → Agrees t b → Cheapest t (written_settings b)
cheapest t b agrees =
    let open_at = agrees.lawful.well_formed.jobs_open in
    let sound : Sound horizon (demands b.now b.jobs) = sound-demands horizon b.now b.jobs theory.ticks open_at in
    let same = in_force_same b in
    let settled : Settled horizon (demands b.now b.jobs) (written_settings b) =
    settled_same horizon (demands b.now b.jobs) (demands b.now b.jobs) (settings_of b) (written_settings b) (λ _ _ _ _. refl) (λ t lt. sym (same t lt))
    ((theory.standing.settled horizon (demands b.now b.jobs) (settings_of b) sound).0 (theory.standing.in_force (demands b.now b.jobs) sound)) in
    let back = IsPermutation-sym (open_jobs t.rows) b.jobs agrees.same in
    let rows_open : All (IsOpenAt b.now) (open_jobs t.rows) = All-permutation (IsOpenAt b.now) b.jobs (open_jobs t.rows) back open_at in
    record {
      up_to_top = λ k lt. omega (arith, agrees.top, same k lt, theory.standing.within (demands b.now b.jobs) b.top agrees.lawful.none_overloaded k lt);
      does = subst (λ now. Does horizon (demands now (open_jobs t.rows)) (written_settings b)) (sym agrees.now)
          (does_any_order b.now b.jobs (open_jobs t.rows) (written_settings b) rows_open back ((theory.enough.does horizon (demands b.now b.jobs) (written_settings b) sound).1 settled.fits));
      least = λ D laws q up does.
          let book_does : Does horizon (demands b.now b.jobs) q =
          does_any_order b.now (open_jobs t.rows) b.jobs q open_at agrees.same (subst (λ now. Does horizon (demands now (open_jobs t.rows)) q) agrees.now does) in
          omega (
            arith,
            upto_same (λ t. D (written_settings b t)) (λ t. D (settings_of b t)) horizon (λ t lt. ap D (same t lt)),
            theory.optimum.cheapest (demands b.now b.jobs) q book_does 255 (λ k lt. omega (arith, up k lt, agrees.top, agrees.lawful.well_formed.top_within)) D laws.0 laws.1,
          );
    }

-- the promises of a moment
pub stands : (t : Tally) (b : View) → Agrees t b → Stands t b
stands t b agrees =
    let back = IsPermutation-sym (open_jobs t.rows) b.jobs agrees.same in
    let due : All (λ j. t.now < j.deadline) b.jobs = λ k d lt. omega (arith, agrees.now, (agrees.lawful.well_formed.jobs_open k d lt).not_due) in
    record {
      rows = rows_in_time t.now t.rows (All-permutation (λ j. t.now < j.deadline) b.jobs (open_jobs t.rows) back due) agrees.within;
      settings = cheapest t b agrees;
    }
