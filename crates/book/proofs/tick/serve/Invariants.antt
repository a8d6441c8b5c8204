use Rattle.queue.specs.Slots.{slots_of, elements_of}
use Rattle.book.proofs.Serving.{WhileServing}
use Rattle.book.proofs.tick.serve.Given as goal

abbrev pub invariant-loop-left : goal.invariant-loop-left
invariant-loop-left l =
    WhileServing (record { now = l.now; units = l.setting; jobs = l.fn.jobs; list = l.fn.list })
    (record { left = l.left; count = l.count; jobs = l.jobs; list = l.list; queue = elements_of (slots_of l.ready) })

abbrev pub decreases-loop-left : goal.decreases-loop-left
decreases-loop-left l = l.ready.len
