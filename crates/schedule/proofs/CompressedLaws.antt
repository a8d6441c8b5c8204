-- Compressed time from round to round.
use Rattle.std.proofs.Common.{◌≡◌, ℕ, zero, suc, ◌+◌, ◌-◌, ◌<◌, ◌≤◌, min, Bool, true, false, cond, ◌⊎◌, List, [], ◌∷◌, map, not, refl, arith}
use Rattle.std.proofs.lemmas.Bool.Decides.{nat_tests}
use Rattle.std.proofs.ByRecursion.{All-map, All-weaker, all_kept_by}
use Rattle.schedule.specs.Demands.{Demand, Sound, Windowed, AllOpen}
use Rattle.schedule.specs.Work.{inside}
use Rattle.schedule.specs.Compressed.{compressed, seen, all_free, NonEmpty, windows}
use Rattle.schedule.specs.BestPair.{Pair}
use Rattle.schedule.specs.Rounds.{unplaced, still_free, taken}
use Rattle.schedule.proofs.SumsLaws.{upto_grows}

-- compressed time never goes back
pub time_mono : (free : ℕ → Bool) (a b : ℕ) → a ≤ b → compressed free a ≤ compressed free b
time_mono free a b ab = upto_grows (λ i. cond (free i) 1 0) a b ab

-- what a round that takes the pair p makes of a compressed time
abbrev pub collapse : Pair → ℕ → ℕ
collapse p x = min x p.low + (x - p.high)

pub compressed_after : (free : ℕ → Bool) (p : Pair) → p.low < p.high → (t : ℕ) → compressed (still_free free p) t ≡ collapse p (compressed free t)
compressed_after free p proper zero = omega arith
compressed_after free p proper (suc t) = grind (arith, nat_tests, compressed_after free p proper t)

compressed_all : (t : ℕ) → compressed all_free t ≡ t
compressed_all zero = refl
compressed_all (suc t) = omega (arith, compressed_all t)

-- a tick that a round takes was free and is not
pub taken_free : (free : ℕ → Bool) (p : Pair) (t : ℕ) → taken free p t ≡ true → (free t ≡ true) × (still_free free p t ≡ false)
taken_free free p t test = (grind (arith, nat_tests), grind (arith, nat_tests))

-- a demand inside the pair, and one that is not, in compressed time
pub inside_parts : (a b : ℕ) (d : Demand) → inside a b d ≡ true → (a ≤ d.from) × (d.to ≤ b)
inside_parts a b d test = grind (arith, nat_tests)

outside_parts : (a b : ℕ) (d : Demand) → inside a b d ≡ false → (d.from < a) ⊎ (b < d.to)
outside_parts a b d test = grind (arith, nat_tests)

-- each demand that is not placed keeps a free tick in its window
pub non_empty_after : (n : ℕ) (free : ℕ → Bool) (p : Pair) → p.low < p.high → (ds : List Demand) → NonEmpty (compressed free n) (windows free ds)
    → NonEmpty (compressed (still_free free p) n) (windows (still_free free p) (unplaced (compressed free) p ds))
non_empty_after n free p proper [] non_empty = tt
non_empty_after n free p proper (d ∷ ds) non_empty =
    let more = non_empty_after n free p proper ds non_empty.1 in
    grind (arith, nat_tests, more, compressed_after free p proper d.from, compressed_after free p proper d.to, compressed_after free p proper n)

-- windows that hold a tick are sound
pub non_empty_sound : (m : ℕ) (ws : List Demand) → NonEmpty m ws → Sound m ws
non_empty_sound m ws non_empty = All-weaker (λ w. (w.from < w.to) × (w.to ≤ m)) (Windowed m) (λ w holds some. holds) ws non_empty

-- the demands left have work left as before
pub open_unplaced : (time : ℕ → ℕ) (p : Pair) (ds : List Demand) → AllOpen ds → AllOpen (unplaced time p ds)
open_unplaced time p = all_kept_by (λ d. not (inside p.low p.high (seen time d))) (λ d. 0 < d.units)

-- in another time they have as much work left
pub open_seen : (time : ℕ → ℕ) (ds : List Demand) → AllOpen ds → AllOpen (map (seen time) ds)
open_seen time = All-map (λ d. 0 < d.units) (seen time)

-- at first each demand has a free tick in its window
pub non_empty_first : (n : ℕ) (ds : List Demand) → Sound n ds → AllOpen ds → NonEmpty (compressed all_free n) (windows all_free ds)
non_empty_first n [] sound all_open = tt
non_empty_first n (d ∷ ds) sound all_open =
    (omega (arith, sound.0 all_open.0, compressed_all d.from, compressed_all d.to, compressed_all n), non_empty_first n ds sound.1 all_open.1)
