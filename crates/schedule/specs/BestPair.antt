-- The pair of compressed times that a round takes: the one with the greatest work over length.
use Rattle.std.specs.Prelude.{◌≡◌, ℕ, ◌-◌, ◌*◌, ◌<◌, ◌≤◌, Bool, cond, ◌&&◌, ◌||◌, ◌⊎◌, List, [], ◌∷◌, ◌==◌, nat_lt}
use Rattle.schedule.specs.Demands.{Demand}
use Rattle.schedule.specs.Work.{work}

-- a pair of compressed times u and v
pub record Pair : Type 0 where
  pub low : ℕ
  pub high : ℕ

-- the length v − u of a pair
abbrev pub extent : Pair → ℕ
extent p = p.high - p.low

-- the work W of a pair: that of the windows that lie inside it
abbrev pub pair_work : List Demand → Pair → ℕ
pair_work ws p = work ws p.low p.high

-- p with work x goes before q with work y: x / length is greater as an exact fraction; or equal, and then p has the
-- lesser u, or the same u and no lesser v
abbrev pub Leads : ℕ → Pair → ℕ → Pair → Type 0
Leads x p y q =
    (y * extent p < x * extent q)
    ⊎ ((y * extent p ≡ x * extent q) × ((p.low < q.low) ⊎ ((p.low ≡ q.low) × (q.high ≤ p.high))))

-- the best pair of the windows: it goes before every pair u < v
pub record Best (ws : List Demand) (p : Pair) : Type 0 where
  pub proper : p.low < p.high
  pub leads : (q : Pair) → q.low < q.high → Leads (pair_work ws p) p (pair_work ws q) q

-- whether q with work y goes before p with work x, and is not p
abbrev pub beats : ℕ → Pair → ℕ → Pair → Bool
beats y q x p =
    let a = y * extent p in
    let b = x * extent q in
    nat_lt b a || (a == b && (nat_lt q.low p.low || (q.low == p.low && nat_lt p.high q.high)))

-- the better of the pair so far and one more
abbrev pub better : List Demand → Pair → Pair → Pair
better ws p q = cond (nat_lt q.low q.high && beats (pair_work ws q) q (pair_work ws p) p) q p

-- the best of p and the pairs from u to the ends of vs
abbrev pub best_end : List Demand → ℕ → List Demand → Pair → Pair
best_end ws u [] p = p
best_end ws u (v ∷ vs) p = best_end ws u vs (better ws p (record { low = u; high = v.to }))

-- the best of p and the pairs from the starts of vs to the ends of all windows
abbrev pub best_start : List Demand → List Demand → Pair → Pair
best_start ws [] p = p
best_start ws (v ∷ vs) p = best_start ws vs (best_end ws v.from ws p)

-- the pair that a window is
abbrev pub own : Demand → Pair
own w = record { low = w.from; high = w.to }

-- the best pair from a start to an end of the windows ws, of which w is one
abbrev pub best_pair : Demand → List Demand → Pair
best_pair w ws = best_start ws ws (own w)
