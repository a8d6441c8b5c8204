-- The theory of settings: every law in one record, each for all that it names.
use Rattle.std.specs.Prelude.{◌≡◌, ℕ, ◌*◌, ◌<◌, ◌≤◌, true, false, ◌↔◌, List, [], ◌∷◌, length, All, sum, Decides}
use Rattle.std.specs.Prelude.{slice_index_or}
use Rattle.std.specs.List.Sorted.{IsPermutation}
use Rattle.power.specs.Laws.{Rising, Convex}
use Rattle.schedule.specs.Sums.{upto}
use Rattle.schedule.specs.Demands.{Demand, job, Sound, AllOpen, Sorted, total}
use Rattle.schedule.specs.Work.{work, Fits}
use Rattle.schedule.specs.Overload.{NoneOverloaded, starts, ends, over, first_overload, Searched}
use Rattle.schedule.specs.Sharing.{Shares, Sharing, load, Does, Exact}
use Rattle.schedule.specs.Edf.{serve, next, edf}
use Rattle.schedule.specs.Draws.{drawn}
use Rattle.schedule.specs.Settled.{Settled}
use Rattle.schedule.specs.Lowering.{is_fit, settle}
use Rattle.schedule.specs.InForce.{horizon, Same, InForce, settings_in_force}
use Rattle.schedule.specs.Placing.{placing}
use Rattle.schedule.specs.Certificate.{listed, is_certified}
use Rattle.schedule.specs.Compressed.{all_free, NonEmpty}
use Rattle.schedule.specs.BestPair.{Pair, pair_work, Leads, Best}
use Rattle.schedule.specs.Rounds.{Rounds, pairs}
use Rattle.schedule.specs.Blocks.{blocks}
use Rattle.schedule.specs.Critical.{Critical}
use Rattle.schedule.specs.Examples.{Examples}
use Rattle.schedule.specs.Answers.{answered, found_for}
use Rattle.schedule.specs.Cases.{cases}

-- a sharing, read by the indices of the demands in their list
pub record Readings : Type 0 where
  -- each demand has its row
  pub rows : (n : ℕ) (ds : List Demand) (x : ℕ → ℕ → ℕ) (none : Demand)
      → Sharing n ds x ↔ ((i : ℕ) → i < length ds → Shares n (slice_index_or ds i none) (x i))
  -- a tick is given the sum over the rows
  pub loads : (ds : List Demand) (x : ℕ → ℕ → ℕ) (t : ℕ) → load ds x t ≡ upto (λ i. x i t) (length ds)

-- 1. Which lists of settings do the open work: Hall's condition, for intervals
pub record Enough : Type 0 where
  -- a list does the open work just if no interval holds more work than the list does in it
  pub does : (n : ℕ) (ds : List Demand) (s : ℕ → ℕ) → Sound n ds → Does n ds s ↔ Fits n ds s
  -- it is exact just if, besides, its total is all the work
  pub exact : (n : ℕ) (ds : List Demand) (s : ℕ → ℕ) → Sound n ds
      → Exact n ds s ↔ (Fits n ds s × (upto s n ≡ total ds))
  -- whether no interval holds more work than the list does in it, a test of all intervals tells
  pub tested : (n : ℕ) (ds : List Demand) (s : ℕ → ℕ) → Decides (is_fit n ds s) (Fits n ds s)
  -- no interval is overloaded just if some list up to the top does the open work
  pub up_to_top : (n : ℕ) (ds : List Demand) (top : ℕ) → Sound n ds
      → NoneOverloaded n ds top ↔ ((s : ℕ → ℕ) × ((t : ℕ) → t < n → s t ≤ top) × Does n ds s)
  -- it is enough to look at the intervals from a start to an end
  pub start_to_end : (n : ℕ) (ds : List Demand) (top : ℕ) → Sound n ds
      → NoneOverloaded n ds top ↔ ((a b : ℕ) → a < b → b ≤ n → over top ds a b ≡ false)
  -- a search through these names the first overloaded one, or none is overloaded
  pub searched : (n top : ℕ) (ds : List Demand) → Sound n ds → Searched n ds top (first_overload top ds 0 n)

-- 2. The settings in force
pub record Standing : Type 0 where
  -- the function gives the settings in force
  pub in_force : (ds : List Demand) → Sound horizon ds → InForce horizon ds (settings_in_force ds)
  -- and no other list is in force
  pub no_other : (ds : List Demand) (s : ℕ → ℕ) → Sound horizon ds → InForce horizon ds s
      → Same horizon s (settings_in_force ds)
  -- for any number of ticks there is one such list, and only one
  pub found : (n : ℕ) (ds : List Demand) → Sound n ds → InForce n ds (settle n ds (work ds 0 n))
  pub only : (n : ℕ) (ds : List Demand) (s q : ℕ → ℕ) → InForce n ds s → InForce n ds q → Same n s q
  -- a list is in force just if it is settled
  pub settled : (n : ℕ) (ds : List Demand) (s : ℕ → ℕ) → Sound n ds → InForce n ds s ↔ Settled n ds s
  -- where no interval is overloaded they stay within the top
  pub within : (ds : List Demand) (top : ℕ) → NoneOverloaded horizon ds top
      → (t : ℕ) → t < horizon → settings_in_force ds t ≤ top
  -- they depend on the demands only through the work of intervals
  pub by_work : (ds es : List Demand) → ((a b : ℕ) → a < b → b ≤ horizon → work ds a b ≡ work es a b)
      → Same horizon (settings_in_force ds) (settings_in_force es)

-- 3. The optimum, compared with every list that does the open work, spare units allowed
pub record Optimum : Type 0 where
  -- no such list draws less, under every D that rises and is convex as far as the list goes: up to 255, if its
  -- settings are
  pub cheapest : (ds : List Demand) (q : ℕ → ℕ) → Does horizon ds q → (last : ℕ) → ((t : ℕ) → t < horizon → q t ≤ last)
      → (D : ℕ → ℕ) → Rising last D → Convex last D → drawn horizon D (settings_in_force ds) ≤ drawn horizon D q
  -- and none has a lower greatest setting
  pub lowest : (ds : List Demand) (q : ℕ → ℕ) → Does horizon ds q → (last : ℕ) → ((t : ℕ) → t < horizon → q t ≤ last)
      → (t : ℕ) → t < horizon → settings_in_force ds t ≤ last

-- what a tick does that serves the first setting in force of ds, in their order
pub record Ticked (ds : List Demand) : Type 0 where
  -- it gives just that many units
  pub gives : sum (serve (settings_in_force ds 0) ds) ≡ settings_in_force ds 0
  -- it leaves no work in a window that ends with the tick
  pub in_time : All (λ d. d.to ≡ 0 → d.units ≡ 0) (next (settings_in_force ds 0) ds)
  -- what is left overloads no interval, where none was overloaded before
  pub none_overloaded : (top : ℕ) → NoneOverloaded horizon ds top
      → NoneOverloaded horizon (next (settings_in_force ds 0) ds) top
  -- what is left has its windows, and its order, for the next tick
  pub sound : Sound horizon (next (settings_in_force ds 0) ds)
  pub sorted : Sorted (next (settings_in_force ds 0) ds)

-- 4. Earliest deadline first
pub record Serving : Type 0 where
  -- serving every tick like this is a sharing within the settings, where they suffice
  pub shares : (n : ℕ) (ds : List Demand) (s : ℕ → ℕ) → Sorted ds → Sound n ds → Fits n ds s
      → Sharing n ds (edf n s ds) × ((t : ℕ) → t < n → load ds (edf n s ds) t ≤ s t)
  -- a tick serves its setting
  pub ticked : (ds : List Demand) → Sorted ds → Sound horizon ds → Ticked ds
  -- any order among equal deadlines does: in every order es by deadline, however the demands ds come,
  -- the settings in force are the same, and a tick serves its setting
  pub any_order : (ds es : List Demand) → Sound horizon ds → IsPermutation ds es → Sorted es
      → Same horizon (settings_in_force es) (settings_in_force ds) × Ticked es

-- 5. The way of the planner
pub record Planning : Type 0 where
  -- placing units in order of deadline at the least loaded tick of the hull gives the settings in force
  pub placed : (ds : List Demand) → Sound horizon ds → Sorted ds → Same horizon (settings_in_force ds) (placing ds)

-- the critical blocks of demands over n ticks
pub record Blocked (n : ℕ) (ds : List Demand) : Type 0 where
  -- the rounds end with every demand placed, each by the best pair
  pub rounds : Rounds all_free ds (pairs (length ds) all_free ds)
  -- no other pairs are those of the rounds
  pub no_other : (ps : List Pair) → Rounds all_free ds ps → ps ≡ pairs (length ds) all_free ds
  -- the blocks do all the work, each in ticks of its own, and none has a greater work over length than one before it
  pub critical : Critical n ds (blocks n ds)

-- 6. Critical blocks
pub record Blocking : Type 0 where
  -- a round's pair is the only best one
  pub only_best : (ws : List Demand) (p q : Pair) → Best ws p → Best ws q → q ≡ p
  -- pairs from a start to an end suffice: a pair with work in it is best if it goes before all of those
  pub start_to_end : (m : ℕ) (ws : List Demand) → NonEmpty m ws → (p : Pair) → p.low < p.high → 0 < pair_work ws p
      → ((q : Pair) → q.low < q.high → starts q.low ws ≡ true → ends q.high ws ≡ true
      → Leads (pair_work ws p) p (pair_work ws q) q)
      → Best ws p
  -- the rounds, for all demands that have work left
  pub blocked : (n : ℕ) (ds : List Demand) → Sound n ds → AllOpen ds → Blocked n ds

-- 7. Settings in force by computation
pub record Computing : Type 0 where
  -- a short list that passes the test, and 0 after it, is in force at 256 ticks, and is what the function gives
  pub certified : (m : ℕ) (ds : List Demand) (xs : List ℕ) → m ≤ horizon → is_certified m ds xs ≡ true
      → InForce horizon ds (listed xs) × Same horizon (settings_in_force ds) (listed xs)
  -- a demand of c units to each tick has c in force at each tick
  pub even : (c : ℕ) → Same horizon (settings_in_force (job 0 horizon (c * horizon) ∷ [])) (λ _. c)

-- all that is proved here
pub record Theory : Type 0 where
  pub ticks : horizon ≡ 256
  pub readings : Readings
  pub enough : Enough
  pub standing : Standing
  pub optimum : Optimum
  pub serving : Serving
  pub planning : Planning
  pub blocking : Blocking
  pub computing : Computing
  -- books over 256 ticks
  pub examples : Examples
  -- small books: the definitions answer what a search through all sharings, lists and pairs found
  pub cases : answered cases ≡ found_for cases
