-- The critical blocks, put together.
use Rattle.std.proofs.Common.{◌≡◌, ℕ, Bool, List, [], ◌∷◌, length, refl, arith}
use Rattle.schedule.specs.Demands.{Demand, Sound, AllOpen}
use Rattle.schedule.specs.Compressed.{compressed, all_free}
use Rattle.schedule.specs.BestPair.{Pair}
use Rattle.schedule.specs.Rounds.{unplaced, still_free, Rounds, pairs}
use Rattle.schedule.specs.Blocks.{blocks, blocks_of}
use Rattle.schedule.specs.Critical.{Critical}
use Rattle.schedule.specs.Theory.{Blocked}
use Rattle.schedule.proofs.CompressedLaws.{non_empty_first}
use Rattle.schedule.proofs.RoundsEnd.{pairs_rounds, rounds_few}
use Rattle.schedule.proofs.BlockFacts.{blocks_shaped, blocks_falling, blocks_apart, blocks_loads, rounds_unique}

blocks_count : (n : ℕ) (free : ℕ → Bool) (ds : List Demand) (ps : List Pair) → length (blocks_of n free ds ps) ≡ length ps
blocks_count n free ds [] = refl
blocks_count n free ds (p ∷ ps) = omega (arith, blocks_count n (still_free free p) (unplaced (compressed free) p ds) ps)

module _ (n : ℕ) (ds : List Demand) (sound : Sound n ds) (all_open : AllOpen ds) where
  abbrev found : List Pair
  found = pairs (length ds) all_free ds

  rounds : Rounds all_free ds found
  rounds = pairs_rounds n (length ds) all_free ds (omega arith) (non_empty_first n ds sound all_open) all_open

  -- the blocks are what they answer
  critical : Critical n ds (blocks n ds)
  critical =
      let non_empty = non_empty_first n ds sound all_open in
      record {
        shaped = blocks_shaped n all_free ds found rounds non_empty all_open;
        falling = blocks_falling n all_free ds found rounds non_empty;
        apart = blocks_apart n all_free ds found;
        whole = blocks_loads n all_free ds found rounds;
        few = omega (arith, blocks_count n all_free ds found, rounds_few n all_free ds found rounds non_empty all_open);
      }

  pub blocked : Blocked n ds
  blocked = record {
    rounds = rounds;
    no_other = λ ps other. rounds_unique all_free ds ps found other rounds;
    critical = critical;
  }
