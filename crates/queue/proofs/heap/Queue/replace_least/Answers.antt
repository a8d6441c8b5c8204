use Rattle.std.proofs.Common.{arith}
use Rattle.queue.specs.Slots.{slots_of}
use Rattle.queue.proofs.Ranks.{ranks}
use Rattle.queue.proofs.Taking.{first_replaced}
use Rattle.queue.proofs.heap.Queue.replace_least.Goals as goal

pub returns-clause-said : goal.returns-clause-said
returns-clause-said g c =
    let q = c.args.self.now in
    let o = ranks g.met.T.Rank.one g.met.T.Rank.ordered g.met.T.Rank.tied in
    first_replaced g.T.Rank.same g.met.T.Rank.one o (slots_of q) _ q.fits q.ordered (omega (arith, c.if-self-eq0.false)) c.args.element c.sift_down.new.heap c.sift_down.ensures.holds
