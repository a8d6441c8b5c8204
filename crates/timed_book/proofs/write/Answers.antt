use Rattle.std.proofs.Common.{refl, rules}
use Rattle.timed_book.specs.Answers.{entry_from_c}
use Rattle.timed_book.proofs.Writing.{one_written}
use Rattle.timed_book.proofs.write.Goals as goal

pub loop-index-preserved : goal.loop-index-preserved
loop-index-preserved c = one_written entry_from_c c.loop-index.list c.args.entries.now c.loop-index.index _ _ (search rules) c.loop-index-test.true refl c.loop-index.invariant
