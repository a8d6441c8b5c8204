use Rattle.std.proofs.Common.{eqb, reverse, rules, tests}
use Rattle.std.proofs.lemmas.Iterator.Adapters.{YieldsList-from_rev_slice}
use Rattle.std.proofs.lemmas.Iterator.Consumers.{count_from_yields_List}
use Rattle.std.proofs.lemmas.Iterator.Search.{YieldsList-from_take_while}
use Rattle.std.proofs.lemmas.List.Folds.{length-prefix_len}
use Rattle.record.proofs.label.trim.Goals as goal

pub returns : goal.returns
returns c =
    let l = c.args.label.now in
    let spaces = count_from_yields_List c.take_while.result c.count-spaces.result c.count-spaces.ensures.ran (YieldsList-from_take_while _ (eqb 0x20) (YieldsList-from_rev_slice l (cc)) c.take_while.ensures.closure c.take_while.ensures.done (λ x b q k. search (rules, tests))) in
    search (rules, spaces, length-prefix_len (eqb 0x20) (reverse l))
