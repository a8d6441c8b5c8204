use Rattle.std.proofs.Common.{leb, rules}
use Rattle.std.proofs.lemmas.List.Sorted.{answers_always}
use Rattle.planner.proofs.Orders.{sorted_answer}
use Rattle.planner.proofs.demands.is_sorted.Goals as goal

pub returns : goal.returns
returns c = sorted_answer c.args.list.now c.is_sorted_by.result (c.is_sorted_by.ensures.cases (λ d e. leb d.to e.to) (answers_always _ _ _ (λ f a r g called. search rules)))
