use Rattle.std.proofs.Common.{◌∙◌, ap}
use Rattle.book.specs.Calls.{strike_outcome}
use Rattle.timed_book.specs.Timed.{offer_and_strike}
use Rattle.timed_book.proofs.offer_and_strike.Goals as goal

pub returns : goal.returns
unfolding offer_and_strike
returns c = c.strike.ensures.after ∙ ap (λ b. (strike_outcome b c.args.job.ticket).book) c.offer.ensures.after
