use Rattle.std.proofs.Common.{rules, tests, ◌==◌, ◌∙◌, ap}
use Rattle.std.proofs.lemmas.Iterator.Search.{any_from_yields_List}
use Rattle.std.proofs.lemmas.Iterator.{YieldsList-from_slice}
use Rattle.schedule.specs.Overload.{starts}
use Rattle.book.proofs.overload.starts_at.Goals as goal

pub returns : goal.returns
returns c =
    any_from_yields_List (λ d. d.from == c.args.from) _ _ _ c.any.ensures.ran (YieldsList-from_slice c.demands.inside.list.now cc) (λ x b q k. search (rules, tests))
    ∙ ap (starts c.args.from) c.demands.view_is
