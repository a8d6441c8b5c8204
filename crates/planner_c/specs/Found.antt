-- Critical blocks as C sees them.
use Rattle.std.specs.Prelude.{List, map, take}
use Rattle.planner.specs.declared.blocks.RelativeBlock.{RelativeBlock}
use Rattle.planner_c.specs.declared.PlannerBlock.{PlannerBlock}
use Rattle.planner_c.specs.declared.PlannerBlockList.{PlannerBlockList}

-- a block that C sees as the planner's: its exact speed, its first tick, and the tick after its last
abbrev pub block_from_c : PlannerBlock → RelativeBlock
block_from_c b = record { speed = (b.work, b.length); from = b.from; to = b.to }

-- the blocks that were found: the first ones of the list, as many as its count says
abbrev pub found_blocks : PlannerBlockList → List RelativeBlock
found_blocks l = map block_from_c (take l.count l.blocks)
