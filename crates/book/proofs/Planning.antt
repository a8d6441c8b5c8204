-- The demands of open jobs are such that settings can be made for them.
use Rattle.std.proofs.Common.{◌≡◌, ℕ, ◌≤◌, true, List, [], ◌∷◌, ◌++◌, length, drop, map, refl, sym, arith}
use Rattle.std.specs.List.{All, AllByRecursion, range_with_len}
use Rattle.std.proofs.lemmas.List.{get_or_append_left}
use Rattle.std.proofs.lemmas.List.FromFn.{fill_by_all}
use Rattle.std.proofs.lemmas.Bool.Decides.{nat_tests}
use Rattle.std.proofs.Math.ListN.{length-map}
use Rattle.std.proofs.lemmas.List.Elements.{All-head, All-tail}
use Rattle.schedule.specs.Demands.{Demand, Sound, Sorted}
use Rattle.schedule.specs.Certificate.{listed}
use Rattle.schedule.specs.InForce.{horizon, Same, InForce}
use Rattle.schedule.proofs.SettledLaws.{settled_same}
use Rattle.schedule.proofs.Theory.{theory}
use Rattle.planner.specs.Plannable.{IsPlannable}
use Rattle.layout.specs.declared.job.Job.{Job}
use Rattle.book.specs.Jobs.{is_before}
use Rattle.book.specs.Demands.{demand, demands}
use Rattle.book.specs.Book.{View, IsOpenAt, IsInOrder}
use Rattle.book.specs.Settings.{settings_of, list_with_settings}
use Rattle.book.proofs.DemandFacts.{sound-demands}
use Rattle.book.proofs.Jobs.{AllPairs-head, AllPairs-tail}

-- what is served after a job has no earlier deadline
later_due : (now : ℕ) (j : Job) (js : List Job) → All (λ k. is_before j k ≡ true) js → AllByRecursion (λ e. (demand now j).to ≤ e.to) (demands now js)
later_due now j [] all = tt
later_due now j (k ∷ ks) all =
    let here = All-head (λ k. is_before j k ≡ true) k ks all in
    let le : j.deadline ≤ k.deadline = grind (arith, nat_tests) in
    (omega arith, later_due now j ks (All-tail (λ k. is_before j k ≡ true) k ks all))

-- jobs in the order of serving have their demands in order of deadline
pub sorted-demands : (now : ℕ) (js : List Job) → IsInOrder js → Sorted (demands now js)
sorted-demands now [] order = tt
sorted-demands now (j ∷ js) order = (
  later_due now j js (AllPairs-head (λ j k. is_before j k ≡ true) j js order),
  sorted-demands now js (AllPairs-tail (λ j k. is_before j k ≡ true) j js order),
)

pub plannable-demands : (now : ℕ) (js : List Job) → length js ≤ 64 → IsInOrder js → All (IsOpenAt now) js → IsPlannable (demands now js)
plannable-demands now js few order open_at = record {
  few = omega (arith, length-map {A = Job} {B = Demand});
  sound = sound-demands _ now js theory.ticks open_at;
  sorted = sorted-demands now js order;
}

-- the settings in force, written into the first elements of a list
pub written : (b : View) (xs list : List ℕ) → length xs ≡ 256 → Same horizon (listed xs) (settings_of b) → xs ++ drop 256 list ≡ list_with_settings b list
written b xs list long same =
    let ticks : horizon ≡ 256 = theory.ticks in
    let all : xs ≡ map (settings_of b) (range_with_len 0 horizon) = fill_by_all (settings_of b) xs horizon 0 (omega arith) same in
    cc

-- what agrees with settings in force at each tick is in force
in_force_same : (ds : List Demand) (s q : ℕ → ℕ) → Sound horizon ds → InForce horizon ds s → Same horizon s q → InForce horizon ds q
in_force_same ds s q sound stands same =
    (theory.standing.settled horizon ds q sound).1 (settled_same horizon ds ds s q (λ _ _ _ _. refl) same ((theory.standing.settled horizon ds s sound).0 stands))

-- so is a list that begins with them
pub in_force_first : (now : ℕ) (js : List Job) (xs rest : List ℕ) → length xs ≡ 256 → All (IsOpenAt now) js → InForce horizon (demands now js) (listed xs) →
    InForce horizon (demands now js) (listed (xs ++ rest))
in_force_first now js xs rest long open_at stands =
    in_force_same (demands now js) (listed xs) (listed (xs ++ rest)) (sound-demands horizon now js theory.ticks open_at) stands
    (λ t lt. sym (get_or_append_left xs rest 0 t (omega (arith, theory.ticks))))
