use Rattle.std.proofs.Common.{◌<◌, refl, arith, rules}
use Rattle.std.proofs.lemmas.List.{get_or-replicate}
use Rattle.power.specs.Breaks.{first_break}
use Rattle.power.specs.BreakLaws.{lawful}
use Rattle.power.proofs.measured.Measured.new.Goals as goal

pub invariant_of-result-clause-bounded : goal.invariant_of-result-clause-bounded
invariant_of-result-clause-bounded c = λ s h. let k : s < 256 = omega arith in rw get_or-replicate (search rules)

pub invariant_of-result-clause-lawful : goal.invariant_of-result-clause-lawful
unfolding first_break
invariant_of-result-clause-lawful c = lawful _ refl
