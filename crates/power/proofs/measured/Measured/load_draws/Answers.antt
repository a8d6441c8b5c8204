use Rattle.std.proofs.Common.{◌≡◌, ◌<◌, take, Some, None, arith, rules}
use Rattle.std.proofs.lemmas.List.{get_or-take}
use Rattle.power.specs.BreakLaws.{lawful}
use Rattle.power.proofs.LoadingLaws.{loads}
use Rattle.power.proofs.measured.Measured.load_draws.Goals as goal

pub invariant_of-self-clause-bounded : goal.invariant_of-self-clause-bounded
invariant_of-self-clause-bounded c =
    let cut : c.in_ok-draws.draws.now ≡ take 256 c.args.list.now = search rules in
    λ s h. let f = c.type_inv.list s in let k : s < 256 = omega arith in rw (cut, get_or-take) (search rules)

pub invariant_of-self-clause-lawful : goal.invariant_of-self-clause-lawful
invariant_of-self-clause-lawful c = lawful _ (search rules)

pub returns-in-Some : goal.returns-in-Some
returns-in-Some c = loads _ _ _ (Some c.in-Some.setting) (search rules) (search rules) (search rules)

pub returns : goal.returns
returns c = loads _ _ _ None (search rules) (search rules) (search rules)
