-- The search for an overloaded interval, by what it has passed.
use Rattle.std.proofs.Common.{◌≡◌, ℕ, zero, suc, ◌+◌, ◌-◌, ◌*◌, ◌<◌, ◌≤◌, Bool, true, false, inl, inr, drop, List, [], ◌∷◌, length, get_or, take, nat_le, Some, None, sym, refl, subst, mul-le-mul_left, arith}
use Rattle.std.proofs.ByRecursion.{All-get_or}
use Rattle.std.specs.List.{All, prefix_len, sum_by}
use Rattle.std.proofs.lemmas.Bool.{cases_eq, cases_lt}
use Rattle.std.proofs.lemmas.Bool.Decides.{nat_tests}
use Rattle.std.proofs.lemmas.List.{take-take, length-take, length-drop, get_or-take, get_or-drop, get_or_default}
use Rattle.std.proofs.lemmas.List.Elements.{All-take}
use Rattle.std.proofs.lemmas.List.Sums.{prefix_len_passes, prefix_len_stops, prefix_len-le-length, sum_by_more}
use Rattle.schedule.specs.Demands.{Demand, Sound, Sorted}
use Rattle.schedule.specs.Work.{work}
use Rattle.schedule.specs.Overload.{starts, ends, overloaded, over, first, up_to, first_overload}
use Rattle.schedule.proofs.WorkLaws.{work_empty}
use Rattle.schedule.proofs.WorkLaws.{work_from}
use Rattle.book.proofs.WorkInside.{work-at_least, work-at_most}

-- the first of n numbers that passes a test
first_none : (p : ℕ → Bool) (k n : ℕ) → ((i : ℕ) → p i ≡ false) → first p k n ≡ None
first_none p k zero h = refl
first_none p k (suc n) h = rw (h k) (first_none p (suc k) n h)

first_at : (p : ℕ → Bool) (k n i : ℕ) → k ≤ i → i < k + n → p i ≡ true → ((j : ℕ) → j < i → p j ≡ false) → first p k n ≡ Some i
first_at p k zero i low high passes before = absurd (omega arith)
first_at p k (suc n) i low high passes before = elim (cases_eq k i) [
  | inl same ↦ rw (same, passes) refl
  | inr apart ↦ rw (before k (omega arith)) (first_at p (suc k) n i (omega arith) (omega arith) passes before)
]

-- the search finds nothing where no interval is over
pub first_overload_none : (top : ℕ) (ds : List Demand) (k n : ℕ) → ((a b : ℕ) → a < k + n → over top ds a b ≡ false) → first_overload top ds k n ≡ None
first_overload_none top ds k zero none = refl
first_overload_none top ds k (suc n) none =
    rw (first_none (over top ds k) (suc k) (suc n) (λ b. none k b (omega arith)))
    (first_overload_none top ds (suc k) n (λ a b lt. none a b (omega arith)))

-- and otherwise the interval before which none is over
pub first_overload_at : (top : ℕ) (ds : List Demand) (k n a b : ℕ) → k ≤ a → a < b → b ≤ k + n → over top ds a b ≡ true
    → ((x y : ℕ) → x < a → over top ds x y ≡ false) → ((y : ℕ) → y < b → over top ds a y ≡ false) → first_overload top ds k n ≡ Some (a, b)
first_overload_at top ds k zero a b low lt high is starts_before ends_before = absurd (omega arith)
first_overload_at top ds k (suc n) a b low lt high is starts_before ends_before = elim (cases_eq k a) [
  | inl same ↦
      subst (λ x. up_to k (first (over top ds k) (suc k) (suc n)) (first_overload top ds (suc k) n) ≡ Some (x, b)) same
      (rw (first_at (over top ds k) (suc k) (suc n) b (omega arith) (omega arith) (subst (λ x. over top ds x b ≡ true) (sym same) is) (λ y yb. subst (λ x. over top ds x y ≡ false) (sym same) (ends_before y yb))) refl)
  | inr apart ↦
      rw (first_none (over top ds k) (suc k) (suc n) (λ y. starts_before k y (omega arith)))
      (first_overload_at top ds (suc k) n a b (omega arith) lt (omega arith) is starts_before ends_before)
]

-- an interval that begins at a start, ends at an end and is overloaded
pub over_at : (top : ℕ) (ds : List Demand) (a b : ℕ) → starts a ds ≡ true → ends b ds ≡ true → overloaded top ds a b ≡ true → over top ds a b ≡ true
over_at top ds a b starts_here ends_here more = grind (arith, nat_tests)

-- an overloaded interval is not empty
pub overloaded_proper : (n top : ℕ) (ds : List Demand) (a b : ℕ) → Sound n ds → overloaded top ds a b ≡ true → a < b
overloaded_proper n top ds a b sound more = elim (cases_lt a b) [
  | inl lt ↦ lt
  | inr le ↦ absurd (grind (arith, nat_tests, work_empty n ds a b sound le))
]

-- what the inner loop has passed: from the start a, none of the first n demands overloads an interval together with
-- those before it
abbrev pub Passed : ℕ → List Demand → ℕ → ℕ → Type 0
Passed top ds a n = (m b : ℕ) → m ≤ n → All (λ d. d.to ≤ b) (take m ds) → sum_by (work_from a) (take m ds) ≤ top * (b - a)

-- later demands end no earlier
ends_in_order : (i k : ℕ) (ds : List Demand) (e : Demand) → Sorted ds → i ≤ k → k < length ds → (get_or ds i e).to ≤ (get_or ds k e).to
ends_in_order i k [] e order le lt = absurd (omega arith)
ends_in_order zero zero (d ∷ ds) e order le lt = omega arith
ends_in_order zero (suc k) (d ∷ ds) e order le lt = All-get_or (λ f. d.to ≤ f.to) ds k e (omega arith) order.0
ends_in_order (suc i) zero (d ∷ ds) e order le lt = absurd (omega arith)
ends_in_order (suc i) (suc k) (d ∷ ds) e order le lt = ends_in_order i k ds e order.1 (omega arith) (omega arith)

-- the number of demands that end by b, in order of deadline
abbrev pub ended : ℕ → List Demand → ℕ
ended b ds = prefix_len (λ d. nat_le d.to b) ds

ended_by : (b : ℕ) (ds : List Demand) → All (λ d. d.to ≤ b) (take (ended b ds) ds)
ended_by b ds k e lt =
    let p : Demand → Bool = λ d. nat_le d.to b in
    let low : k < ended b ds = omega (arith, length-take (ended b ds) ds) in
    let here : p (get_or ds k e) ≡ true = prefix_len_passes p ds k e low in
    rw (get_or-take (ended b ds) ds k e low) (grind (arith, nat_tests))

ended_later : (b : ℕ) (ds : List Demand) → Sorted ds → All (λ d. b < d.to) (drop (ended b ds) ds)
ended_later b ds order k e lt =
    let p : Demand → Bool = λ d. nat_le d.to b in
    let n = ended b ds in
    let inside : n + k < length ds = omega (arith, length-drop n ds) in
    let stops : p (get_or ds n e) ≡ false = prefix_len_stops p ds e (omega arith) in
    let later = ends_in_order n (n + k) ds e order (omega arith) inside in
    rw (get_or-drop n ds k e) (grind (arith, nat_tests))

-- they are no more than there are
pub ended_all : (b : ℕ) (ds : List Demand) → ended b ds ≤ length ds
ended_all b ds = prefix_len-le-length (λ d. nat_le d.to b) ds

-- an interval is not over where all that end by its end are passed
pub over_passed : (top : ℕ) (ds : List Demand) (a n b : ℕ) → Sorted ds → Passed top ds a n → ended b ds ≤ n → over top ds a b ≡ false
over_passed top ds a n b order passed le =
    let few = passed (ended b ds) b le (ended_by b ds) in
    let all = work-at_most a b (ended b ds) ds (ended_later b ds order) in
    grind (arith, nat_tests)

-- they are passed where a demand that is not ends later
pub ended_before : (b i : ℕ) (ds : List Demand) (e : Demand) → b < (get_or ds i e).to → ended b ds ≤ i
ended_before b i ds e later = elim (cases_lt i (ended b ds)) [
  | inl lt ↦ let here = prefix_len_passes (λ d. nat_le d.to b) ds i e lt in absurd (grind (arith, nat_tests))
  | inr le ↦ le
]

-- an interval to the end of a demand holds the work of it and of those before it
pub work_up_to : (a i : ℕ) (ds : List Demand) (e : Demand) → Sorted ds → i < length ds
    → sum_by (work_from a) (take (i + 1) ds) ≤ work ds a (get_or ds i e).to
work_up_to a i ds e order lt = work-at_least a (get_or ds i e).to (i + 1) ds up_to_end
  where
    up_to_end : All (λ d. d.to ≤ (get_or ds i e).to) (take (i + 1) ds)
    up_to_end k f h =
        let low : k < i + 1 = omega (arith, length-take (i + 1) ds) in
        rw (get_or-take (i + 1) ds k f low, get_or_default ds k f e (omega arith)) (ends_in_order k i ds e order (omega arith) lt)

-- a demand that starts before a passes
pub passed_early : (top : ℕ) (ds : List Demand) (a i : ℕ) (e : Demand) → i < length ds → (get_or ds i e).from < a → Passed top ds a i → Passed top ds a (i + 1)
passed_early top ds a i e lt early passed m b le all = elim (cases_lt i m) [
  | inl here ↦
      let same : m ≡ i + 1 = omega arith in
      let low : i ≤ m = omega arith in
      let before : All (λ d. d.to ≤ b) (take i (take m ds)) = All-take (λ d. d.to ≤ b) i (take m ds) all in
      let few = passed i b (omega arith) (subst (All (λ d. d.to ≤ b)) (take-take i m ds low) before) in
      rw same (grind (arith, nat_tests, sum_by_more (work_from a) ds i e lt))
  | inr earlier ↦ passed m b earlier all
]

-- and one with which the work so far does not overload the interval to its end
pub passed_within : (top : ℕ) (ds : List Demand) (a i : ℕ) (e : Demand) → i < length ds
    → sum_by (work_from a) (take (i + 1) ds) ≤ top * ((get_or ds i e).to - a) → Passed top ds a i → Passed top ds a (i + 1)
passed_within top ds a i e lt within passed m b le all = elim (cases_lt i m) [
  | inl here ↦
      let same : m ≡ i + 1 = omega arith in
      let ends : (get_or ds i e).to ≤ b = subst (λ d. d.to ≤ b) (get_or-take m ds i e here) (all i e (omega (arith, length-take m ds))) in
      let wider : top * ((get_or ds i e).to - a) ≤ top * (b - a) = mul-le-mul_left top (omega arith) in
      rw same (omega (arith, within, wider))
  | inr earlier ↦ passed m b earlier all
]
