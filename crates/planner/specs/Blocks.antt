-- Critical blocks, as the planner hands them back.
use Rattle.std.specs.Prelude.{List, map, nat_lt}
use Rattle.std.specs.List.{filter}
use Rattle.schedule.specs.Demands.{Demand}
use Rattle.schedule.specs.InForce.{horizon}
use Rattle.schedule.specs.Blocks.{blocks, Block as TheoryBlock}
use Rattle.planner.specs.declared.blocks.RelativeBlock.{RelativeBlock}

-- a critical block as it is handed back: its exact speed as its work and its length, its first tick, and the tick
-- after its last
abbrev pub block_of : TheoryBlock → RelativeBlock
block_of c = record { speed = (c.load, c.size); from = c.first; to = c.past }

-- the demands that have work left
abbrev pub open_demands : List Demand → List Demand
open_demands ds = filter (λ d. nat_lt 0 d.units) ds

-- the critical blocks of the demands that have work left, in the order of the rounds
abbrev pub critical_blocks : List Demand → List RelativeBlock
critical_blocks ds = map block_of (blocks horizon (open_demands ds))
