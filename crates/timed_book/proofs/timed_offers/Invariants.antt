use Rattle.std.proofs.Common.{◌≡◌, ◌-◌}
use Rattle.timed_book.specs.Timed.{after, book_of, offer_and_strike}
use Rattle.timed_book.proofs.timed_offers.Given as goal

abbrev pub invariant-loop-time : goal.invariant-loop-time
invariant-loop-time l = after (offer_and_strike l.job) (l.times - l._time) l.book ≡ after (offer_and_strike l.job) l.times (book_of l.image)
