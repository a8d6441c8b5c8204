use Rattle.timed_book.specs.Timed.{tick_once}
use Rattle.timed_book.proofs.tick_once.Goals as goal

pub returns : goal.returns
unfolding tick_once
returns c = c.tick.ensures.after
