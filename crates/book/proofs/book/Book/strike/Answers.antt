use Rattle.std.proofs.Common.{sym}
use Rattle.book.specs.Book.{View}
use Rattle.book.proofs.Striking.{lawful_removed}
use Rattle.book.proofs.book.Book.strike.Goals as goal

pub invariant_of-self : goal.invariant_of-self
invariant_of-self c =
    let b : View = record { now = c.self.inside.tick; top = c.self.inside.top; jobs = c.self.inside.jobs } in
    rw c.remove.ensures (lawful_removed c.args.ticket c.in-Some.index b c.self.invariant (sym c.in-Some.ensures))
