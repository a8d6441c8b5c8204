use Rattle.std.proofs.Common.{arith}
use Rattle.queue.specs.Slots.{slots_of}
use Rattle.queue.proofs.Ranks.{ranks}
use Rattle.queue.proofs.Taking.{least_said}
use Rattle.queue.proofs.heap.Queue.least.Goals as goal

pub returns : goal.returns
returns g c =
    let q = c.args.self.now in
    let o = ranks g.met.T.Rank.one g.met.T.Rank.ordered g.met.T.Rank.tied in
    record { said = least_said g.T.Rank.same g.met.T.Rank.one o (slots_of q) _ q.fits q.ordered (omega (arith, c.if-self-eq0.false)) }
