use Rattle.std.proofs.Common.{rules, tests}
use Rattle.std.proofs.lemmas.Iterator.{YieldsList-from_slice}
use Rattle.std.proofs.lemmas.Iterator.Search.{all_from_yields_List}
use Rattle.layout.specs.Layout.{is_printable}
use Rattle.record.proofs.label.is_label.Goals as goal

pub returns-then-label-eq-LABEL_LEN : goal.returns-then-label-eq-LABEL_LEN
returns-then-label-eq-LABEL_LEN c =
    let all = all_from_yields_List is_printable _ _ c.all.result c.all.ensures.ran (YieldsList-from_slice c.args.label.now cc) (λ x b q k. search (rules, tests)) in
    search (rules, all)
