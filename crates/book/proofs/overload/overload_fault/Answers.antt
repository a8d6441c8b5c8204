use Rattle.std.proofs.Common.{sym, subst}
use Rattle.schedule.specs.Compressed.{NonEmpty}
use Rattle.schedule.specs.InForce.{horizon}
use Rattle.schedule.proofs.Theory.{theory}
use Rattle.book.proofs.DemandFacts.{non_empty-demands}
use Rattle.book.proofs.overload.overload_fault.Goals as goal

pub first_overload-requires : goal.first_overload-requires
first_overload-requires c = subst (NonEmpty horizon) (sym c.demands_of-demands.ensures) (non_empty-demands horizon c.args.now c.args.jobs.now theory.ticks c.requires.open)
