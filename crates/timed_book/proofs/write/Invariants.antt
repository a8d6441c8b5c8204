use Rattle.std.proofs.Common.{◌≡◌, map, take}
use Rattle.timed_book.specs.Answers.{entry_from_c}
use Rattle.timed_book.proofs.write.Given as goal

abbrev pub invariant-loop-index : goal.invariant-loop-index
invariant-loop-index l = map entry_from_c (take l.index l.list) ≡ take l.index l.entries
