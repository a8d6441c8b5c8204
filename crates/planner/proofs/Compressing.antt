-- Compressed time by its table.
use Rattle.std.proofs.Common.{◌≡◌, ℕ, ◌<◌, ◌≤◌, Bool, true, false, cond, not, ◌&&◌, List, [], ◌∷◌, length, take, map, inl, inr, refl, sym, ap, ◌∙◌, subst, arith}
use mathlib.Core.Path.{fun_ext}
use Rattle.std.specs.List.{AllByRecursion}
use Rattle.std.proofs.ByRecursion.{All-weaker}
use Rattle.std.proofs.lemmas.Bool.{cases_lt, and_from, and_right}
use Rattle.std.proofs.lemmas.Bool.Decides.{nat_tests}
use Rattle.std.proofs.lemmas.List.{get_or_past, length-take-le}
use Rattle.schedule.specs.Certificate.{listed}
use Rattle.schedule.specs.Demands.{Demand}
use Rattle.schedule.specs.Work.{inside}
use Rattle.schedule.specs.Compressed.{compressed, seen, NonEmpty, windows}
use Rattle.schedule.specs.BestPair.{Pair}
use Rattle.schedule.specs.Rounds.{between, taken, still_free, unplaced}
use Rattle.schedule.proofs.CompressedLaws.{time_mono}
use Rattle.planner.specs.Ticks.{is_free_in, is_marked_in}

module _ (free : ℕ → Bool) (times : List ℕ) (agree : (t : ℕ) → t ≤ 256 → listed times t ≡ compressed free t) where
  -- a demand seen by the table is seen in compressed time
  seen_by : (d : Demand) → d.from < d.to → d.to ≤ 256 → seen (listed times) d ≡ seen (compressed free) d
  seen_by d proper within = λ i. record { from = agree d.from (omega arith) i; to = agree d.to within i; units = d.units }

  pub windows_by : (ds : List Demand) → NonEmpty 256 ds → map (seen (listed times)) ds ≡ windows free ds
  windows_by [] windowed = refl
  windows_by (d ∷ ds) windowed = let here = seen_by d windowed.0.0 windowed.0.1 in let rest = windows_by ds windowed.1 in cc

  pub unplaced_by : (p : Pair) (ds : List Demand) → NonEmpty 256 ds → unplaced (listed times) p ds ≡ unplaced (compressed free) p ds
  unplaced_by p [] windowed = refl
  unplaced_by p (d ∷ ds) windowed =
      let here = seen_by d windowed.0.0 windowed.0.1 in
      let rest = unplaced_by p ds windowed.1 in
      λ i. cond (not (inside p.low p.high (here i))) (d ∷ rest i) (rest i)

-- what is not among those of b is not b
and_not : (a b c : Bool) → c ≡ (a && b) → (a && not c) ≡ (a && not b)
and_not true b c is = ap not is
and_not false b c is = refl

-- the ticks that a round takes, and those that are free after it, by their lists
module _ (xs : List Bool) (times : List ℕ) (p : Pair) (size : length xs ≡ 256) (agree : (t : ℕ) → t ≤ 256 → listed times t ≡ compressed (is_free_in xs) t)
    (within : p.high ≤ compressed (is_free_in xs) 256) (marks : List Bool) where
  -- no tick from the last one on lies in the pair
  none_past : (t : ℕ) → 256 ≤ t → between p (compressed (is_free_in xs) t) ≡ false
  none_past t le = let later = time_mono (is_free_in xs) 256 t le in grind (arith, nat_tests)

  pub taken_by : length marks ≡ 256 → ((t : ℕ) → t < 256 → is_marked_in marks t ≡ (is_free_in xs t && between p (listed times t))) → is_marked_in marks ≡ taken (is_free_in xs) p
  taken_by long each = fun_ext (λ t. elim (cases_lt t 256) [
    | inl lt ↦ each t lt ∙ ap (λ x. is_free_in xs t && between p x) (agree t (omega arith))
    | inr le ↦ get_or_past marks t false (omega arith) ∙ sym (and_right (is_free_in xs t) (between p (compressed (is_free_in xs) t)) (none_past t le))
  ])

  pub free_by : (ys : List Bool) → length ys ≡ 256 → is_marked_in marks ≡ taken (is_free_in xs) p → ((t : ℕ) → t < 256 → is_free_in ys t ≡ (is_free_in xs t && not (is_marked_in marks t)))
      → is_free_in ys ≡ still_free (is_free_in xs) p
  free_by ys long is each = fun_ext (λ t. elim (cases_lt t 256) [
    | inl lt ↦ each t lt ∙ and_not (is_free_in xs t) (between p (compressed (is_free_in xs) t)) (is_marked_in marks t) (ap (λ (f : ℕ → Bool). f t) is)
    | inr le ↦
        let was : is_free_in xs t ≡ true = get_or_past xs t true (omega arith) in
        get_or_past ys t true (omega arith) ∙ sym (and_from (is_free_in xs t) (not (between p (compressed (is_free_in xs) t))) was (ap not (none_past t le)))
  ])

-- the windows of the first n demands
pub windows_first : (time : ℕ → ℕ) (n : ℕ) (ds ws : List Demand) → n ≤ length ds → take (length (take n ds)) ws ≡ map (seen time) (take n ds) → take n ws ≡ map (seen time) (take n ds)
windows_first time n ds ws le are = subst (λ k. take k ws ≡ map (seen time) (take n ds)) (length-take-le n ds le) are

-- windows with a tick are proper
pub windows_proper : (m : ℕ) (ws : List Demand) → NonEmpty m ws → AllByRecursion (λ w. w.from < w.to) ws
windows_proper m ws non_empty = All-weaker (λ w. (w.from < w.to) × (w.to ≤ m)) (λ w. w.from < w.to) (λ w holds. holds.0) ws non_empty
