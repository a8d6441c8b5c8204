use Rattle.std.proofs.Common.{◌≡◌, take}
use Rattle.book.specs.Demands.{demands}
use Rattle.book.proofs.demands.demands_of.Given as goal

abbrev pub invariant-loop-index : goal.invariant-loop-index
invariant-loop-index l = take l.index l.list ≡ demands l.now (take l.index l.jobs)
