-- The work inside an interval, by the demands in order of deadline.
use Rattle.std.proofs.Common.{◌≡◌, ℕ, zero, suc, ◌<◌, ◌≤◌, true, List, [], ◌∷◌, length, get_or, take, drop, refl, arith}
use Rattle.std.specs.List.{All, sum_by}
use Rattle.std.proofs.lemmas.Bool.Decides.{nat_tests}
use Rattle.std.proofs.lemmas.List.Elements.{All-head, All-tail}
use Rattle.std.proofs.lemmas.List.Sums.{sum_by-cons}
use Rattle.schedule.specs.Demands.{Demand}
use Rattle.schedule.specs.Overload.{ends}
use Rattle.schedule.specs.Work.{work}
use Rattle.schedule.proofs.WorkLaws.{work_from}

-- the end of each demand is one
pub ends_at : (i : ℕ) (ds : List Demand) (e : Demand) → i < length ds → ends (get_or ds i e).to ds ≡ true
ends_at i [] e h = absurd (omega arith)
ends_at zero (d ∷ ds) e h = grind (arith, nat_tests)
ends_at (suc i) (d ∷ ds) e h = let r = ends_at i ds e (omega arith) in grind (arith, nat_tests)

-- in an interval lies at least the work of the first n demands, where none of them ends after it
pub work-at_least : (a b n : ℕ) (ds : List Demand) → All (λ d. d.to ≤ b) (take n ds) → sum_by (work_from a) (take n ds) ≤ work ds a b
work-at_least a b zero ds all = omega arith
work-at_least a b (suc n) [] all = omega arith
work-at_least a b (suc n) (d ∷ ds) all =
    let here = All-head (λ d. d.to ≤ b) d (take n ds) all in
    let rest = work-at_least a b n ds (All-tail (λ d. d.to ≤ b) d (take n ds) all) in
    grind (arith, nat_tests, sum_by-cons (work_from a) d (take n ds))

-- no demand that ends later adds to it
work-none : (a b : ℕ) (ds : List Demand) → All (λ d. b < d.to) ds → work ds a b ≡ 0
work-none a b [] all = refl
work-none a b (d ∷ ds) all =
    let here = All-head (λ d. b < d.to) d ds all in
    let rest = work-none a b ds (All-tail (λ d. b < d.to) d ds all) in
    grind (arith, nat_tests)

-- so it holds at most the work of the first n demands, where the others end after it
pub work-at_most : (a b n : ℕ) (ds : List Demand) → All (λ d. b < d.to) (drop n ds) → work ds a b ≤ sum_by (work_from a) (take n ds)
work-at_most a b zero ds later = omega (arith, work-none a b ds later)
work-at_most a b (suc n) [] later = omega arith
work-at_most a b (suc n) (d ∷ ds) later =
    let rest = work-at_most a b n ds later in
    grind (arith, nat_tests, sum_by-cons (work_from a) d (take n ds))
