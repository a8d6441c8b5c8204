use Rattle.std.proofs.Common.{not}
use Rattle.std.proofs.lemmas.List.Filters.{FiltersInPlace}
use Rattle.schedule.specs.Certificate.{listed}
use Rattle.schedule.specs.Compressed.{seen}
use Rattle.schedule.specs.Work.{inside}
use Rattle.planner.proofs.rounds.remove_inside.Given as goal

abbrev pub invariant-loop-index : goal.invariant-loop-index
invariant-loop-index l = FiltersInPlace (λ d. not (inside l.pair.low l.pair.high (seen (listed l.times) d))) l.initial.demands l.demands l.count l.index
