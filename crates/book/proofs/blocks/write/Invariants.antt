use Rattle.std.proofs.Common.{◌≡◌, map}
use Rattle.std.proofs.Math.Seq.{paste}
use Rattle.book.specs.Blocks.{block_in_time}
use Rattle.book.proofs.blocks.write.Given as goal

abbrev pub invariant-loop-index : goal.invariant-loop-index
invariant-loop-index l = l.list ≡ paste l.fn.list 0 (map (block_in_time l.now) l.blocks) l.index
