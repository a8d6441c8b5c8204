-- What critical blocks are like.
use Rattle.std.specs.Prelude.{◌≡◌, ℕ, suc, ◌*◌, ◌<◌, ◌≤◌, Bool, true, false, cond, List, length, All, AllPairs, sum_by}
use Rattle.schedule.specs.Sums.{upto}
use Rattle.schedule.specs.Demands.{Demand, total}
use Rattle.schedule.specs.Blocks.{Block}

-- `first` is the first tick below n that passes a test, and `past` the tick after the last one
pub record Bounds (n : ℕ) (test : ℕ → Bool) (first past : ℕ) : Type 0 where
  pub starts : test first ≡ true
  pub ends : (last : ℕ) × (suc last ≡ past) × (test last ≡ true)
  pub within : past ≤ n
  pub only : (t : ℕ) → t < n → test t ≡ true → (first ≤ t) × (t < past)

-- a block is what it answers: it has as many ticks as its length says, from its first to its last
pub record Shaped (n : ℕ) (b : Block) : Type 0 where
  pub some : 0 < b.size
  pub below : (t : ℕ) → b.has t ≡ true → t < n
  pub ticks : upto (λ t. cond (b.has t) 1 0) n ≡ b.size
  pub bounds : Bounds n b.has b.first b.past

-- the exact speed of b, its work over its length, is at least that of c
abbrev pub NoSlower : Block → Block → Type 0
NoSlower b c = c.load * b.size ≤ b.load * c.size

-- b and c share no tick
abbrev pub Disjoint : Block → Block → Type 0
Disjoint b c = (t : ℕ) → b.has t ≡ true → c.has t ≡ false

-- the exact speeds of the blocks do not rise
abbrev pub Falling : List Block → Type 0
Falling bs = AllPairs NoSlower bs

-- no two blocks share a tick
abbrev pub Apart : List Block → Type 0
Apart bs = AllPairs Disjoint bs

-- blocks that do all the work, in ticks of their own, in falling order, and no more blocks than demands
pub record Critical (n : ℕ) (ds : List Demand) (bs : List Block) : Type 0 where
  pub shaped : All (Shaped n) bs
  pub falling : Falling bs
  pub apart : Apart bs
  pub whole : sum_by (λ b. b.load) bs ≡ total ds
  pub few : length bs ≤ length ds
