use Rattle.std.proofs.Common.{◌≡◌, ◌++◌, length}
use Rattle.planner.specs.Blocks.{critical_blocks}
use Rattle.planner.proofs.blocks.critical_blocks.Given as goal

abbrev pub invariant-loop-block : goal.invariant-loop-block
invariant-loop-block l = l.blocks ++ l.rounds ≡ critical_blocks l.fn.demands

abbrev pub decreases-loop-block : goal.decreases-loop-block
decreases-loop-block l = length l.rounds
