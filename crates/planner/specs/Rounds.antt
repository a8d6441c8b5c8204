-- What the rounds of critical blocks keep and leave.
use Rattle.std.specs.Prelude.{ℕ, Bool, List, length, map}
use Rattle.schedule.specs.Demands.{Demand, AllOpen}
use Rattle.schedule.specs.Compressed.{compressed, NonEmpty, windows}
use Rattle.schedule.specs.Rounds.{pairs}
use Rattle.schedule.specs.Blocks.{blocks_of}
use Rattle.schedule.specs.InForce.{horizon}
use Rattle.planner.specs.declared.blocks.RelativeBlock.{RelativeBlock}
use Rattle.planner.specs.Blocks.{block_of}

-- the blocks of the rounds from here on: of the demands ds, with these ticks free
abbrev pub blocks_to_come : (ℕ → Bool) → List Demand → List RelativeBlock
blocks_to_come free ds = map block_of (blocks_of horizon free ds (pairs (length ds) free ds))

-- what holds of the demands that are left: each has work left, and a free tick in its window
pub record AreLeft (free : ℕ → Bool) (ds : List Demand) : Type 0 where
  pub windowed : NonEmpty horizon ds
  pub all_open : AllOpen ds
  pub free_left : NonEmpty (compressed free horizon) (windows free ds)
