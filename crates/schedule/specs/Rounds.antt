-- The rounds of critical blocks: each places demands and takes their ticks, until no demand is left.
use Rattle.std.specs.Prelude.{◌≡◌, ℕ, zero, suc, ◌<◌, Bool, not, ◌&&◌, List, [], ◌∷◌, length, filter, nat_le, nat_lt}
use Rattle.schedule.specs.Demands.{Demand}
use Rattle.schedule.specs.Work.{inside}
use Rattle.schedule.specs.Compressed.{compressed, seen, windows}
use Rattle.schedule.specs.BestPair.{Pair, Best, best_pair}

-- whether a compressed time lies in the pair
abbrev pub between : Pair → ℕ → Bool
between p x = nat_le p.low x && nat_lt x p.high

-- the ticks that a round takes: the free ones whose compressed time lies in its pair
abbrev pub taken : (ℕ → Bool) → Pair → ℕ → Bool
taken free p t = free t && between p (compressed free t)

-- the ticks that are free after it
abbrev pub still_free : (ℕ → Bool) → Pair → ℕ → Bool
still_free free p t = free t && not (between p (compressed free t))

-- the demands that it does not place: those that do not lie inside the pair
abbrev pub unplaced : (ℕ → ℕ) → Pair → List Demand → List Demand
unplaced time p ds = filter (λ d. not (inside p.low p.high (seen time d))) ds

-- ps are the pairs of the rounds: each is the best of the demands not yet placed, and after the last round none is
-- left
abbrev pub Rounds : (ℕ → Bool) → List Demand → List Pair → Type 0
Rounds free ds [] = ds ≡ []
Rounds free ds (p ∷ ps) =
    (0 < length ds) × Best (windows free ds) p × Rounds (still_free free p) (unplaced (compressed free) p ds) ps

-- the pairs of the rounds, as they are found, of at most `most` rounds
abbrev pub pairs : ℕ → (ℕ → Bool) → List Demand → List Pair
pairs zero free ds = []
pairs (suc most) free [] = []
pairs (suc most) free (d ∷ ds) =
    let p = best_pair (seen (compressed free) d) (windows free (d ∷ ds)) in
    p ∷ pairs most (still_free free p) (unplaced (compressed free) p (d ∷ ds))
