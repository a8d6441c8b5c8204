-- The ticks of a hull, as they are queued, taken out and queued again.
use Rattle.std.proofs.Common.{◌≡◌, ℕ, ◌+◌, ◌<◌, ◌≤◌, cond, eqb, List, [], ◌∷◌, refl, sym, ap, ◌∙◌, inl, inr, arith}
use Rattle.std.specs.List.{AllByRecursion}
use Rattle.std.specs.List.Sorted.{IsPermutation}
use Rattle.std.proofs.ByRecursion.{All-weaker, all_shuffled}
use Rattle.std.proofs.lemmas.List.Sums.{sum_by-cons}
use Rattle.std.proofs.lemmas.List.Sorted.{sum_by-IsPermutation}
use Rattle.std.proofs.lemmas.Bool.{cases_eq}
use Rattle.std.proofs.lemmas.Bool.Decides.{nat_tests}
use Rattle.queue.specs.declared.ticks.PlannedTick.{PlannedTick}
use Rattle.schedule.specs.Placing.{put}
use Rattle.planner.specs.Queued.{copy_count, IsCurrent, IsQueued}

-- a tick with its units
abbrev planned : ℕ → ℕ → PlannedTick
planned u t = record { units = u; tick = t }

copy_count-cons : (t : ℕ) (x : PlannedTick) (xs : List PlannedTick) → copy_count t (x ∷ xs) ≡ cond (eqb t x.tick) 1 0 + copy_count t xs
copy_count-cons t x xs = sum_by-cons (λ y. cond (eqb t y.tick) 1 0) x xs

-- a tick that ends what is queued is not queued yet
copy_count-none : (s : ℕ → ℕ) (t : ℕ) (xs : List PlannedTick) → AllByRecursion (IsCurrent s t) xs → copy_count t xs ≡ 0
copy_count-none s t [] all = refl
copy_count-none s t (x ∷ xs) all = let h = all.0.1 in grind (arith, nat_tests, copy_count-cons t x xs, copy_count-none s t xs all.1)

-- a tick that is queued stands in the queue
pub at_tick : (P : PlannedTick → Type 0) (t : ℕ) (xs : List PlannedTick) → AllByRecursion P xs → 0 < copy_count t xs → (x : PlannedTick) × (x.tick ≡ t) × P x
at_tick P t [] all some = absurd (omega arith)
at_tick P t (x ∷ xs) all some = elim (cases_eq t x.tick) [
  | inl same ↦ (x, sym same, all.0)
  | inr other ↦ at_tick P t xs all.1 (let e : copy_count t (x ∷ xs) ≡ copy_count t xs = grind (arith, nat_tests, copy_count-cons t x xs) in omega (arith, e))
]

-- one tick more in what is queued leaves what is said of the others as it was, if they do not hold it
current_put : (s : ℕ → ℕ) (u to : ℕ) (xs : List PlannedTick) → AllByRecursion (IsCurrent s to) xs → copy_count u xs ≡ 0 → AllByRecursion (IsCurrent (put s u) to) xs
current_put s u to [] all none = tt
current_put s u to (x ∷ xs) all none =
    let c = copy_count-cons u x xs in
    let h = all.0.0 in
    ((grind (arith, nat_tests), all.0.1), current_put s u to xs all.1 (grind (arith, nat_tests)))

pub queued_none : (s : ℕ → ℕ) (lo : ℕ) → IsQueued s lo lo []
queued_none s lo = record { current = tt; once = λ t lt tl. absurd (omega arith) }

pub queued_more : (s : ℕ → ℕ) (lo t : ℕ) (xs : List PlannedTick) → IsQueued s lo t xs → IsQueued s lo (t + 1) (planned (s t) t ∷ xs)
queued_more s lo t xs q = record {
  current = ((refl, omega arith), All-weaker (IsCurrent s t) (IsCurrent s (t + 1)) (λ x h. (h.0, omega (arith, h.1))) xs q.current);
  once = λ v lv vt. elim (cases_eq v t) [
    | inl same ↦ grind (arith, nat_tests, copy_count-cons v (planned (s t) t) xs, ap (λ k. copy_count k xs) same, copy_count-none s t xs q.current)
    | inr other ↦ grind (arith, nat_tests, copy_count-cons v (planned (s t) t) xs, q.once v lv)
  ];
}

pub queued_permuted : (s : ℕ → ℕ) (lo to : ℕ) (xs ys : List PlannedTick) → IsPermutation xs ys → IsQueued s lo to xs → IsQueued s lo to ys
queued_permuted s lo to xs ys perm q = record {
  current = all_shuffled (IsCurrent s to) xs ys perm q.current;
  once = λ t lt tt'. sum_by-IsPermutation (λ x. cond (eqb t x.tick) 1 0) xs ys perm ∙ q.once t lt tt';
}

-- fewer ticks are asked for
pub queued_later : (s : ℕ → ℕ) (lo later to : ℕ) (xs : List PlannedTick) → lo ≤ later → IsQueued s lo to xs → IsQueued s later to xs
queued_later s lo later to xs le q = record { current = q.current; once = λ t lt tl. q.once t (omega arith) tl }

module _ (s : ℕ → ℕ) (lo to : ℕ) (x : PlannedTick) (xs : List PlannedTick) (q : IsQueued s lo to (x ∷ xs)) where
  -- a tick before lo is taken out
  pub queued_tail : x.tick < lo → IsQueued s lo to xs
  queued_tail early = record { current = q.current.1; once = λ t lt tl. grind (arith, nat_tests, copy_count-cons t x xs, q.once t) }

  -- another tick is queued again, with one unit more
  pub queued_again : lo ≤ x.tick → IsQueued (put s x.tick) lo to (planned (x.units + 1) x.tick ∷ xs)
  queued_again le =
      let c = q.current.0 in
      let none : copy_count x.tick xs ≡ 0 = grind (arith, nat_tests, copy_count-cons x.tick x xs, q.once x.tick le c.1) in
      record {
        current = ((grind (arith, nat_tests), c.1), current_put s x.tick to xs q.current.1 none);
        once = λ t lt tl. grind (arith, nat_tests, copy_count-cons t x xs, copy_count-cons t (planned (x.units + 1) x.tick) xs, q.once t lt tl);
      }
