-- The windows of demands, and their order, told by each and the next.
use Rattle.std.proofs.Common.{◌≡◌, ℕ, zero, suc, ◌+◌, ◌<◌, ◌≤◌, Bool, true, false, leb, List, [], ◌∷◌, length, get_or, All, IsTrue, ◌↔◌, refl, sym, subst, arith}
use Rattle.std.specs.List.{AllByRecursion, IsAllAdjacentAnswer}
use Rattle.std.proofs.lemmas.Bool.{leb-true, leb-false}
use Rattle.std.proofs.ByRecursion.{All-get_or, All-from_get_or}
use Rattle.schedule.specs.Demands.{Demand, job, Windowed, Sound, Sorted}
use Rattle.schedule.specs.InForce.{horizon}
use Rattle.schedule.proofs.Theory.{theory}

-- demands that all have their windows, as the theory says it
pub sound_answer : (ds : List Demand) (r : Bool) → IsTrue r ↔ All (Windowed 256) ds → IsTrue r ↔ Sound horizon ds
sound_answer ds r (to, from) = (
  λ yes. subst (λ n. Sound n ds) (sym theory.ticks) (All-from_get_or (Windowed 256) ds (job 0 0 0) (λ i lt. to yes i (job 0 0 0) lt)),
  λ sound. from (λ i d lt. All-get_or (Windowed 256) ds i d lt (subst (λ n. Sound n ds) theory.ticks sound)),
)

-- no demand has its deadline after that of the next
abbrev InOrder : List Demand → Type 0
InOrder ds = (k : ℕ) (d : Demand) → suc k < length ds → (get_or ds k d).to ≤ (get_or ds (suc k) d).to

all_later : (m : ℕ) (ds : List Demand) → ((d : Demand) → 0 < length ds → m ≤ (get_or ds 0 d).to) → InOrder ds → AllByRecursion (λ e. m ≤ e.to) ds
all_later m [] first order = tt
all_later m (d ∷ ds) first order =
    let here : m ≤ d.to = first d (omega arith) in
    (here, all_later m ds (λ e pos. omega (arith, order 0 e (omega arith))) (λ k e lt. order (suc k) e (omega arith)))

sorted_from : (ds : List Demand) → InOrder ds → Sorted ds
sorted_from [] order = tt
sorted_from (d ∷ ds) order = (all_later d.to ds (λ e pos. order 0 e (omega arith)) (λ k e lt. order (suc k) e (omega arith)), sorted_from ds (λ k e lt. order (suc k) e (omega arith)))

sorted_to : (ds : List Demand) → Sorted ds → InOrder ds
sorted_to [] sorted k d lt = absurd (omega arith)
sorted_to (e ∷ []) sorted k d lt = absurd (omega arith)
sorted_to (e ∷ f ∷ ds) sorted zero d lt = sorted.0.0
sorted_to (e ∷ f ∷ ds) sorted (suc k) d lt = sorted_to (f ∷ ds) sorted.1 k d (omega arith)

in_order_not : (ds : List Demand) (k : ℕ) → k + 1 < length ds → ((d : Demand) → false ≡ leb (get_or ds k d).to (get_or ds (k + 1) d).to) → InOrder ds → ⊥
in_order_not [] k lt some order = omega arith
in_order_not (d ∷ ds) k lt some order =
    let e : suc k ≡ k + 1 = omega arith in
    let le : (get_or (d ∷ ds) k d).to ≤ (get_or (d ∷ ds) (k + 1) d).to = rw (← e) (order k d (omega arith)) in
    let gt = leb-false (get_or (d ∷ ds) k d).to (get_or (d ∷ ds) (k + 1) d).to (sym (some d)) in
    omega arith

-- the answer of a test of each and the next
pub sorted_answer : (ds : List Demand) (r : Bool) → IsAllAdjacentAnswer (λ d e b. b ≡ leb d.to e.to) ds r → IsTrue r ↔ Sorted ds
sorted_answer ds true all = (
  λ _. sorted_from ds (λ k d lt. let e : suc k ≡ k + 1 = omega arith in rw e (leb-true (get_or ds k d).to (get_or ds (k + 1) d).to (sym (all k d (omega arith))))),
  λ _. refl,
)
sorted_answer ds false (k, lt, some) = (
  λ no. cc,
  λ sorted. absurd (in_order_not ds k lt some (sorted_to ds sorted)),
)
