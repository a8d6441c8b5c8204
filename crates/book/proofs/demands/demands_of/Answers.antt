use Rattle.std.proofs.Common.{◌≡◌, ◌∙◌, length, take, sym, subst, ap, arith}
use Rattle.std.proofs.Math.Seq.{take-length}
use Rattle.planner.specs.Plannable.{IsPlannable}
use Rattle.book.specs.Demands.{demands}
use Rattle.book.proofs.Planning.{plannable-demands}
use Rattle.book.proofs.demands.demands_of.Goals as goal

pub invariant_of-result : goal.invariant_of-result
invariant_of-result c =
    let js = c.args.jobs.now in
    let done : c.loop-index.index ≡ length js = omega arith in
    let all : take (length js) c.loop-index.list ≡ demands c.args.now js =
    subst (λ k. take k c.loop-index.list ≡ demands c.args.now (take k js)) done c.loop-index.invariant ∙ ap (demands c.args.now) (take-length js) in
    subst IsPlannable (sym all) (plannable-demands c.args.now js c.requires.few c.requires.in_order c.requires.open)
