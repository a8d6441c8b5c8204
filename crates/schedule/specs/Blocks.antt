-- Critical blocks: what each round answers.
use Rattle.std.specs.Prelude.{ℕ, zero, suc, Bool, cond, ◌||◌, List, [], ◌∷◌, length, nat_lt}
use Rattle.schedule.specs.Demands.{Demand}
use Rattle.schedule.specs.Compressed.{compressed, windows, all_free}
use Rattle.schedule.specs.BestPair.{Pair, extent, pair_work}
use Rattle.schedule.specs.Rounds.{taken, still_free, unplaced, pairs}

-- a critical block: its work, its length, its first tick, the tick after its last, and whether a tick belongs to it
pub record Block : Type 0 where
  pub load : ℕ
  pub size : ℕ
  pub first : ℕ
  pub past : ℕ
  pub has : ℕ → Bool

-- the first tick below n that passes a test, or n
abbrev pub first_tick : (ℕ → Bool) → ℕ → ℕ
first_tick test zero = zero
first_tick test (suc n) = let t = first_tick test n in cond (nat_lt t n || test n) t (suc n)

-- the tick after the last one below n that passes a test, or 0
abbrev pub past_tick : (ℕ → Bool) → ℕ → ℕ
past_tick test zero = zero
past_tick test (suc n) = cond (test n) (suc n) (past_tick test n)

-- the block of the round that takes the pair p
abbrev pub block : ℕ → (ℕ → Bool) → List Demand → Pair → Block
block n free ds p = record {
  load = pair_work (windows free ds) p;
  size = extent p;
  first = first_tick (taken free p) n;
  past = past_tick (taken free p) n;
  has = taken free p;
}

-- the blocks of the rounds that take the pairs ps
abbrev pub blocks_of : ℕ → (ℕ → Bool) → List Demand → List Pair → List Block
blocks_of n free ds [] = []
blocks_of n free ds (p ∷ ps) = block n free ds p ∷ blocks_of n (still_free free p) (unplaced (compressed free) p ds) ps

-- the critical blocks of the demands over n ticks, in the order of the rounds
abbrev pub blocks : ℕ → List Demand → List Block
blocks n ds = blocks_of n all_free ds (pairs (length ds) all_free ds)
