use Rattle.std.proofs.Common.{not, get_or, refl, rules, tests}
use Rattle.std.proofs.lemmas.Iterator.{YieldsList-from_range}
use Rattle.std.proofs.lemmas.Iterator.Search.{find_from_yields_List}
use Rattle.layout.specs.Layout.{is_allowed}
use Rattle.layout.proofs.Layouts.{find_forbidden}
use Rattle.layout.proofs.kind.Kind.first_forbidden.Goals as goal

pub returns : goal.returns
returns c =
    let found = find_from_yields_List (λ j. not (is_allowed c.args.self j (get_or c.args.bytes.now j 0))) _ _ c.find.result c.find.ensures.ran (YieldsList-from_range _ _ _ refl refl) (λ x b q k. search (rules, tests)) in
    search (rules, found, find_forbidden c.args.self c.args.bytes.now)
