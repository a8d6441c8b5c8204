-- A tick leaves a lawful book.
use Rattle.std.proofs.Common.{◌≡◌, ◌≢◌, ℕ, zero, suc, ◌+◌, ◌-◌, ◌<◌, ◌≤◌, Bool, true, false, nat_lt, inl, inr, List, [], ◌∷◌, ◌++◌, ◌∙◌, length, take, drop, get_or, set, refl, sym, ap, arith, add-one}
use Rattle.std.specs.List.{All, AllPairs, filter, sum, sum_by}
use Rattle.std.proofs.Math.Seq.{drop-cons, take-suc, take-suc-set}
use Rattle.std.proofs.lemmas.List.{length-map, drop-set-lt, append-nil}
use Rattle.std.proofs.lemmas.List.Elements.{All-head, All-tail, All-cons, filter-append}
use Rattle.std.proofs.lemmas.List.Kept.{AllPairs-cons, AllPairs-filter}
use Rattle.std.proofs.lemmas.List.Sums.{length-filter, count_by-le-length, sum_by-cons}
use Rattle.std.proofs.lemmas.Slice.Zip.{length-zip}
use Rattle.std.proofs.lemmas.Bool.{cases_Bool, cases_lt}
use Rattle.std.proofs.lemmas.Bool.Decides.{nat_tests}
use Rattle.schedule.specs.Demands.{Demand}
use Rattle.schedule.specs.Work.{work}
use Rattle.schedule.specs.InForce.{horizon}
use Rattle.schedule.specs.Edf.{given, serve, later, next}
use Rattle.schedule.specs.Theory.{Ticked}
use Rattle.schedule.proofs.Theory.{theory}
use Rattle.layout.specs.declared.job.Job.{Job}
use Rattle.book.specs.declared.tick.Entry.{Entry}
use Rattle.book.specs.Jobs.{is_before}
use Rattle.book.specs.Demands.{demand, demands}
use Rattle.book.specs.Book.{View, IsOpenAt, IsLawful}
use Rattle.layout.specs.declared.job.TheConstants.{LAST_TICK}
use Rattle.book.specs.Settings.{settings_of}
use Rattle.book.specs.Ticks.{grants, worked_job, entry_of, entries_of, has_work, grants_of, book_after_tick}
use Rattle.book.proofs.DemandFacts.{sound-demands}
use Rattle.book.proofs.Jobs.{AllPairs-head, AllPairs-tail}
use Rattle.book.proofs.Keeping.{work-filter}
use Rattle.book.proofs.Planning.{sorted-demands}
use Rattle.book.proofs.Serving.{jobs_then}

-- what the jobs demand at the next tick
demands-next : (now u : ℕ) (js : List Job) → demands (now + 1) (jobs_then now u js) ≡ next u (demands now js)
demands-next now u [] = refl
demands-next now u (j ∷ js) =
    let from : j.arrival - (now + 1) ≡ j.arrival - now - 1 = omega arith in
    let to : j.deadline - (now + 1) ≡ j.deadline - now - 1 = omega arith in
    let rest = demands-next now (u - given u (demand now j)) js in
    λ i. record { from = from i; to = to i; units = j.work - given u (demand now j) } ∷ rest i

-- what holds of all jobs, and of all pairs of them, whatever work they have left
all_kept : (P Q : Job → Type 0) → ((j : Job) (g : ℕ) → P j → Q (worked_job (j, g))) → (now u : ℕ) (js : List Job) → All P js → All Q (jobs_then now u js)
all_kept P Q keeps now u [] all = λ k d lt. absurd (omega arith)
all_kept P Q keeps now u (j ∷ js) all =
    let g = given u (demand now j) in
    All-cons Q (worked_job (j, g)) (jobs_then now (u - g) js) (keeps j g (All-head P j js all)) (all_kept P Q keeps now (u - g) js (All-tail P j js all))

pairs_kept : (R : Job → Job → Type 0) → ((j k : Job) (g h : ℕ) → R j k → R (worked_job (j, g)) (worked_job (k, h))) → (now u : ℕ) (js : List Job) → AllPairs R js → AllPairs R (jobs_then now u js)
pairs_kept R keeps now u [] pairs = λ a b d lt le. absurd (omega arith)
pairs_kept R keeps now u (j ∷ js) pairs =
    let g = given u (demand now j) in
    AllPairs-cons R (worked_job (j, g)) (jobs_then now (u - g) js)
    (all_kept (R j) (R (worked_job (j, g))) (λ k h r. keeps j k g h r) now (u - g) js (AllPairs-head R j js pairs))
    (pairs_kept R keeps now (u - g) js (AllPairs-tail R j js pairs))

-- what holds of all elements that pass a test
all_passed : (p : Job → Bool) (P : Job → Type 0) (js : List Job) → All (λ j. p j ≡ true → P j) js → All P (filter p js)
all_passed p P [] all = λ k d lt. absurd (omega arith)
all_passed p P (j ∷ js) all =
    let here = All-head (λ j. p j ≡ true → P j) j js all in
    let rest = all_passed p P js (All-tail (λ j. p j ≡ true → P j) j js all) in
    elim (cases_Bool (p j)) [
      | inl t ↦ rw t (All-cons P j (filter p js) (here t) rest)
      | inr t ↦ rw t rest
    ]

-- a job that has work left after the tick is open at the next one
open_after : (now u : ℕ) (js : List Job) → All (IsOpenAt now) js → All (λ d. d.to ≡ 0 → d.units ≡ 0) (next u (demands now js))
    → All (λ j. has_work j ≡ true → IsOpenAt (now + 1) j) (jobs_then now u js)
open_after now u [] all due = λ k d lt. absurd (omega arith)
open_after now u (j ∷ js) all due =
    let g = given u (demand now j) in
    let h = All-head (IsOpenAt now) j js all in
    let done : j.deadline - now - 1 ≡ 0 → j.work - g ≡ 0 = All-head (λ (d : Demand). d.to ≡ 0 → d.units ≡ 0) (later g (demand now j)) (next (u - g) (demands now js)) due in
    All-cons (λ j. has_work j ≡ true → IsOpenAt (now + 1) j) (worked_job (j, g)) (jobs_then now (u - g) js)
    (λ works.
    let some : 0 < j.work - g = grind (arith, nat_tests) in
    record {
      some_ticket = h.some_ticket;
      work_left = some;
      not_due = elim (cases_lt (now + 1) j.deadline) [ inl lt ↦ lt | inr le ↦ absurd (omega (arith, done (omega arith))) ];
      in_sight = omega (arith, h.in_sight);
      in_time = h.in_time;
      some_window = h.some_window;
      short_window = h.short_window;
    })
    (open_after now (u - g) js (All-tail (IsOpenAt now) j js all) (All-tail (λ (d : Demand). d.to ≡ 0 → d.units ≡ 0) (later g (demand now j)) (next (u - g) (demands now js)) due))

-- the law of a tick, for a lawful book
law : (b : View) → IsLawful b → Ticked (demands b.now b.jobs)
law b h = theory.serving.ticked (demands b.now b.jobs) (sorted-demands b.now b.jobs h.well_formed.in_order) (sound-demands horizon b.now b.jobs theory.ticks h.well_formed.jobs_open)

-- what a grant adds to the units of the entries
entry_units : (j : Job) (g : ℕ) (ss : List (Job × ℕ)) → sum_by (λ e. e.units) (entries_of ((j, g) ∷ ss)) ≡ g + sum_by (λ e. e.units) (entries_of ss)
entry_units j zero ss = omega arith
entry_units j (suc g) ss = let t : nat_lt 0 (suc g) ≡ true = grind (arith, nat_tests) in rw t (sum_by-cons (λ (e : Entry). e.units) (entry_of (j, suc g)) (entries_of ss))

-- the entries give the units that the jobs get
units_given : (now u : ℕ) (js : List Job) → sum_by (λ e. e.units) (entries_of (grants now u js)) ≡ sum (serve u (demands now js))
units_given now u [] = refl
units_given now u (j ∷ js) =
    let g = given u (demand now j) in
    entry_units j g (grants now (u - g) js) ∙ ap (λ n. g + n) (units_given now (u - g) js) ∙ sym (sum_by-cons (λ n. n) g (serve (u - g) (demands now js)))

-- in a lawful book that is the setting
pub gives_setting : (b : View) → IsLawful b → sum_by (λ e. e.units) (entries_of (grants_of b)) ≡ settings_of b 0
gives_setting b h = units_given b.now (settings_of b 0) b.jobs ∙ (law b h).gives

pub lawful_after : (b : View) → IsLawful b → b.now ≢ LAST_TICK → IsLawful (book_after_tick b)
lawful_after b h more =
    let u = settings_of b 0 in
    let js = jobs_then b.now u b.jobs in
    let t = law b h in
    record {
      well_formed = record {
        in_time = omega (arith, h.well_formed.in_time);
        top_positive = h.well_formed.top_positive;
        top_within = h.well_formed.top_within;
        few = omega (
          arith,
          h.well_formed.few,
          length-filter has_work js,
          count_by-le-length has_work js,
          length-map (grants b.now u b.jobs) worked_job,
          length-zip b.jobs (serve u (demands b.now b.jobs)),
        );
        tickets_differ = AllPairs-filter (λ j k. j.ticket ≢ k.ticket) has_work js (pairs_kept (λ j k. j.ticket ≢ k.ticket) (λ j k g h r. r) b.now u b.jobs h.well_formed.tickets_differ);
        in_order = AllPairs-filter (λ j k. is_before j k ≡ true) has_work js (pairs_kept (λ j k. is_before j k ≡ true) (λ j k g h r. r) b.now u b.jobs h.well_formed.in_order);
        jobs_open = all_passed has_work (IsOpenAt (b.now + 1)) js (open_after b.now u b.jobs h.well_formed.jobs_open t.in_time);
      };
      none_overloaded = λ x y lt le.
          omega (
            arith,
            work-filter has_work (b.now + 1) x y js,
            ap (λ ds. work ds x y) (demands-next b.now u b.jobs),
            t.none_overloaded b.top h.none_overloaded x y lt le,
          );
    }

-- closing the jobs that are done, index by index
module _ (places old : List Job) (count index : ℕ) (d : Job) (lt : index < length places) (lt_old : index < length old) (others : drop index places ≡ drop index old) where
  both : get_or places index d ∷ drop (suc index) places ≡ get_or old index d ∷ drop (suc index) old
  both = sym (drop-cons places index d lt) ∙ others ∙ drop-cons old index d lt_old

  here : get_or places index d ≡ get_or old index d
  here = let e = both in cc

  behind : drop (suc index) places ≡ drop (suc index) old
  behind = let e = both in cc

  one_more : (ys : List Job) → filter has_work (get_or places index d ∷ []) ≡ ys → filter has_work (take (suc index) old) ≡ filter has_work (take index old) ++ ys
  one_more ys e =
      ap (filter has_work) (take-suc old index d lt_old) ∙ filter-append has_work (take index old) (get_or old index d ∷ [])
      ∙ ap (λ zs. filter has_work (take index old) ++ zs) (ap (λ j. filter has_work (j ∷ [])) (sym here) ∙ e)

  -- a job with work left moves to the index `count`
  pub kept : has_work (get_or places index d) ≡ true → count ≤ index → take count places ≡ filter has_work (take index old)
      → (take (count + 1) (set places count (get_or places index d)) ≡ filter has_work (take (index + 1) old))
      × (drop (index + 1) (set places count (get_or places index d)) ≡ drop (index + 1) old)
  kept works le same =
      let x = get_or places index d in
      let more = one_more (x ∷ []) (rw works refl) in
      (rw (add-one count, add-one index) (take-suc-set places count x (omega arith) ∙ ap (λ xs. xs ++ x ∷ []) same ∙ sym more), rw (add-one index) (drop-set-lt (suc index) places count x (omega arith) ∙ behind))

  -- one with none does not
  pub closed : has_work (get_or places index d) ≡ false → take count places ≡ filter has_work (take index old)
      → (take count places ≡ filter has_work (take (index + 1) old)) × (drop (index + 1) places ≡ drop (index + 1) old)
  closed done same =
      let more = one_more [] (rw done refl) in
      (rw (add-one index) (same ∙ sym (append-nil (filter has_work (take index old))) ∙ sym more), rw (add-one index) behind)
