use Rattle.std.proofs.Common.{◌∙◌, arith}
use Rattle.book.proofs.CriticalBlocks.{block_written, all_written}
use Rattle.book.proofs.blocks.write.Goals as goal

pub loop-index-preserved : goal.loop-index-preserved
loop-index-preserved c =
    rw (c.loop-index.invariant, c.in_time.ensures) (block_written c.args.now c.args.blocks.now c.args.list.now c.requires.room c.loop-index.index _ c.loop-index-test.true)

pub returns-clause-list : goal.returns-clause-list
returns-clause-list c = c.loop-index.invariant ∙ all_written c.args.now c.args.blocks.now c.args.list.now c.requires.room c.loop-index.index (omega arith)
