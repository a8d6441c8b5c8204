use Rattle.std.proofs.Common.{rules, tests, ◌∙◌, sym, ◌*◌}
use mir.Val.{bool_byte}
use Rattle.std.proofs.lemmas.Iterator.{YieldsList-from_slice, YieldsList-from_map}
use Rattle.std.proofs.lemmas.Iterator.Consumers.{sum_by_from_yields_List}
use Rattle.schedule.specs.Work.{inside}
use Rattle.planner.proofs.Windows.{work-no_branch}
use Rattle.planner.proofs.demands.work_inside.Goals as goal

pub returns : goal.returns
returns c =
    sum_by_from_yields_List (λ w. bool_byte (inside c.args.low c.args.high w) * w.units) _ c.map.result _ c.sum.ensures.ran
    (YieldsList-from_map _ (λ w. bool_byte (inside c.args.low c.args.high w) * w.units) (YieldsList-from_slice c.args.windows.now cc) c.map.ensures.closure (λ x r q k. search (rules, tests)))
    ∙ sym (work-no_branch c.args.low c.args.high c.args.windows.now)
