use Rattle.std.proofs.Common.{◌≡◌, map, take, drop}
use Rattle.planner_c.specs.Found.{block_from_c}
use Rattle.planner_c.proofs.PlannerBlockList.write.Given as goal

abbrev pub invariant-loop-index : goal.invariant-loop-index
invariant-loop-index l = record {
  blocks : map block_from_c (take l.index l.self.blocks) ≡ take l.index l.blocks;
  rest : drop l.index l.self.blocks ≡ drop l.index l.initial.self.blocks;
}
