-- A unit goes to the tick of its hull with the fewest units, and leaves a hull.
use Rattle.std.proofs.Common.{◌≡◌, ℕ, ◌+◌, ◌-◌, ◌<◌, ◌≤◌, false, ◌&&◌, ◌||◌, eqb, ltb, List, [], ◌∷◌, length, sym, ap, subst, ◌∙◌, inl, inr, Option, None, Some, arith}
use Rattle.std.specs.List.{AllByRecursion}
use Rattle.std.proofs.ByRecursion.{all_shuffled}
use Rattle.std.proofs.lemmas.Bool.Decides.{nat_tests}
use Rattle.std.proofs.lemmas.Bool.{cases_eq}
use Rattle.queue.specs.declared.ticks.PlannedTick.{PlannedTick}
use Rattle.queue.specs.Elements.{is_tick_before}
use Rattle.queue.specs.Slots.{Slots, elements_of}
use Rattle.queue.specs.Says.{Added, Removed, TakeLeaves}
use Rattle.schedule.specs.Placing.{State, put, low_end, lowest_tick, spot, place_at, slack_after}
use Rattle.schedule.proofs.Poised.{AtMost}
use Rattle.schedule.proofs.Deadlines.{lowest_tick_is, low_end_begun}
use Rattle.planner.specs.declared.hull.Hull.{Hull}
use Rattle.planner.specs.Hull.{IsHull}
use Rattle.planner.specs.Queued.{IsCurrent, IsQueued}
use Rattle.planner.proofs.Queueing.{at_tick, queued_permuted, queued_tail, queued_again, queued_later}
use Rattle.planner.proofs.Slots.{take_removed}
use Rattle.planner.proofs.LowEnds.{low_end_last, low_end_rises, low_end_stays}

-- a queue with no tick is no hull's
pub holds_ticks : {st : State} {h : Hull} → IsHull st h → (q : Slots PlannedTick) → IsQueued st.settings h.start h.to (elements_of q) → 0 < q.count
holds_ticks {st = st} {h = h} hull q queued = elim (cases_eq q.count 0) [
  | inl none ↦
      let empty : IsQueued st.settings h.start h.to [] = subst (λ k. IsQueued st.settings h.start h.to (elements_of record q { count = k })) none queued in
      let begun : h.start < h.to = omega (arith, low_end_begun st.slack h.from, hull.start, h.proper) in
      absurd (omega (arith, empty.once h.start (omega arith) begun))
  | inr some ↦ omega arith
]

all_both : (P Q : PlannedTick → Type 0) (xs : List PlannedTick) → AllByRecursion P xs → AllByRecursion Q xs → AllByRecursion (λ x. P x × Q x) xs
all_both P Q [] p q = tt
all_both P Q (x ∷ xs) p q = ((p.0, q.0), all_both P Q xs p.1 q.1)

-- of two ranks that are each at most the other, the ticks are the same
rank_same : (x i y j : ℕ) → (ltb x y || (eqb x y && ltb i j)) ≡ false → AtMost x i y j → i ≡ j
rank_same x i y j never (inl less) = absurd (let z : ◌≡◌ {A = ℕ} 0 1 = grind (arith, nat_tests) in omega arith)
rank_same x i y j never (inr (same, early)) = grind (arith, nat_tests)

pub lowest_taken : (s : ℕ → ℕ) (lo to : ℕ) (x : PlannedTick) (xs : List PlannedTick) → IsQueued s lo to (x ∷ xs) → lo ≤ x.tick
    → AllByRecursion (λ y. is_tick_before y x ≡ false) (x ∷ xs) → x.tick ≡ lowest_tick s lo (to - lo - 1)
lowest_taken s lo to x xs queued le least =
    let k = to - lo - 1 in
    let v = lowest_tick s lo k in
    let low = lowest_tick_is s lo k in
    let c = queued.current.0 in
    let vt : v < to = omega (arith, low.before, c.1) in
    let most : AtMost (s v) v (s x.tick) x.tick = low.lowest x.tick le (omega (arith, c.1)) in
    let (y, yv, ((yu, yt), never)) = at_tick (λ y. IsCurrent s to y × (is_tick_before y x ≡ false)) v (x ∷ xs)
    (all_both (IsCurrent s to) (λ y. is_tick_before y x ≡ false) (x ∷ xs) queued.current least) (omega (arith, queued.once v low.begun vt)) in
    let yr : y.units ≡ s v = yu ∙ ap s yv in
    sym (sym yv ∙ rank_same y.units y.tick x.units x.tick never (grind (arith, c.0)))

alike : (x y : PlannedTick) → y.units ≡ x.units → y.tick ≡ x.tick → y ≡ x
alike x y units tick =
    let half : PlannedTick = record { units = x.units; tick = y.tick } in
    let first : y ≡ half = ap (λ (u : ℕ). record { units = u; tick = y.tick }) units in
    first ∙ ap (λ (t : ℕ). record { units = x.units; tick = t }) tick

-- of the ticks that are held just one has none before it
one_least : (q m n : Slots PlannedTick) (x y : PlannedTick) → Removed is_tick_before x q m → Removed is_tick_before y q n → y ≡ x
one_least q m n x y one other =
    let no_yx : is_tick_before y x ≡ false = (all_shuffled (λ z. is_tick_before z x ≡ false) (elements_of q) (y ∷ elements_of n) other.holds one.least).0 in
    let no_xy : is_tick_before x y ≡ false = (all_shuffled (λ z. is_tick_before z y ≡ false) (elements_of q) (x ∷ elements_of m) one.holds other.least).0 in
    alike x y (grind (arith, nat_tests)) (grind (arith, nat_tests))

-- so whatever removes a tick that none is before answers the same
pub same_answer : (q m n : Slots PlannedTick) {x : PlannedTick} {one : Option PlannedTick} (other : Option PlannedTick)
    → TakeLeaves is_tick_before q m one → one ≡ Some x → TakeLeaves is_tick_before q n other → other ≡ Some x
same_answer q m n {x = x} {one = one} None said is leaves = absurd (omega (arith, leaves.0, (take_removed is_tick_before q m one x said is).count))
same_answer q m n {x = x} {one = one} (Some y) said is leaves = ap Some (one_least q m n x y (take_removed is_tick_before q m one x said is) leaves)

-- x is taken out of the queue of a hull
pub record Taken (st : State) (h : Hull) (r : Slots PlannedTick) (x : PlannedTick) : Type 0 where
  pub hull : IsHull st h
  pub queued : IsQueued st.settings h.start h.to (x ∷ elements_of r)
  pub least : AllByRecursion (λ y. is_tick_before y x ≡ false) (x ∷ elements_of r)

pub taken : {st : State} {h : Hull} (q : Slots PlannedTick) {r : Slots PlannedTick} {answer : Option PlannedTick} {x : PlannedTick} → IsHull st h → q.count ≤ length q.slots
    → IsQueued st.settings h.start h.to (elements_of q) → TakeLeaves is_tick_before q r answer → answer ≡ Some x → Taken st h r x
taken {st = st} {h = h} q {r = r} {answer = answer} {x = x} hull fits queued said is =
    let removed = take_removed is_tick_before q r answer x said is in
    record {
      hull = hull;
      queued = queued_permuted st.settings h.start h.to (elements_of q) (x ∷ elements_of r) removed.holds queued;
      least = all_shuffled (λ y. is_tick_before y x ≡ false) (elements_of q) (x ∷ elements_of r) removed.holds removed.least;
    }

module _ {st : State} {h : Hull} {r : Slots PlannedTick} {x : PlannedTick} (t : Taken st h r x) where
  -- it is dropped where it lies before the start
  pub dropped : x.tick < h.start → IsQueued st.settings h.start h.to (elements_of r)
  dropped early = queued_tail st.settings h.start h.to x (elements_of r) t.queued early

  -- else it is the spot
  pub is_spot : h.start ≤ x.tick → x.tick ≡ spot h.from h.to st
  is_spot late = lowest_taken st.settings h.start h.to x (elements_of r) t.queued late t.least ∙ ap (λ l. lowest_tick st.settings l (h.to - l - 1)) t.hull.start

  pub in_sight : x.tick < 256
  in_sight = omega (arith, t.queued.current.0.1, h.in_sight)

  pub slack_before : h.start ≤ x.tick → (k : ℕ) → x.tick < k → k ≤ h.from → 0 < st.slack k
  slack_before late k xk kf = low_end_last st.slack h.from k (omega (arith, t.hull.start)) kf

  -- a unit is allocated there, and the tick is queued again
  module _ (late : h.start ≤ x.tick) {after : State} (allocated : after ≡ place_at h.from x.tick st) {p : Slots PlannedTick} (added : Added record { units = x.units + 1; tick = x.tick } r p) where
    pub queued_after : IsQueued after.settings h.start h.to (elements_of p)
    queued_after = subst (λ (s : State). IsQueued s.settings h.start h.to (elements_of p)) (sym allocated)
        (queued_permuted (put st.settings x.tick) h.start h.to (record { units = x.units + 1; tick = x.tick } ∷ elements_of r) (elements_of p) added.holds (queued_again st.settings h.start h.to x (elements_of r) t.queued late))

    low_end_after : low_end after.slack h.from ≡ low_end (slack_after h.from x.tick st.slack) h.from
    low_end_after = ap (λ (s : State). low_end s.slack h.from) allocated

    pub queued_risen : IsQueued after.settings (low_end after.slack h.from) h.to (elements_of p)
    queued_risen = queued_later after.settings h.start (low_end after.slack h.from) h.to (elements_of p)
        (omega (arith, low_end_after, t.hull.start, low_end_rises st.slack h.from x.tick (omega (arith, t.hull.start)))) queued_after

    pub start_stays : h.from ≤ x.tick → h.start ≡ low_end after.slack h.from
    start_stays fx = t.hull.start ∙ sym (low_end_after ∙ low_end_stays st.slack h.from x.tick fx)
