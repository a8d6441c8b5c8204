use Rattle.std.proofs.Common.{◌≡◌, ◌+◌, ap, arith}
use Rattle.queue.specs.Slots.{slots_of}
use Rattle.queue.proofs.Ranks.{ranks}
use Rattle.queue.proofs.Taking.{first_taken, only_taken}
use Rattle.queue.proofs.heap.Queue.take.Goals as goal
use Rattle.queue.proofs.heap.Queue.take.Goals.{then-last-gt0, else-last-gt0}

pub returns-clause-said : goal.returns-clause-said
returns-clause-said g c =
    let q = c.args.self.now in
    let r = slots_of c.if-last-gt0.self in
    let m = c.in_ok-last.last in
    let d = c.index-self-0.result in
    let o = ranks g.met.T.Rank.one g.met.T.Rank.ordered g.met.T.Rank.tied in
    let count : q.len ≡ m + 1 = omega (arith, c.in_ok-last.ensures) in
    elim c.if-last-gt0.branch [
      | then-last-gt0 w ↦ first_taken g.T.Rank.same g.met.T.Rank.one o (slots_of q) r m d q.fits q.ordered count c.index-self-last.result w.sift_down.new.heap w.if-last-gt0.true w.sift_down.ensures.holds (ap slots_of w.self-is)
      | else-last-gt0 w ↦ only_taken g.T.Rank.same g.met.T.Rank.one o (slots_of q) r m d q.fits q.ordered count w.if-last-gt0.false (ap slots_of w.self-is)
    ]
