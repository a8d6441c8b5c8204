use Rattle.std.proofs.Common.{◌≡◌, ◌-◌}
use Rattle.timed_book.specs.Timed.{after, book_of, tick_once}
use Rattle.timed_book.proofs.timed_ticks.Given as goal

abbrev pub invariant-loop-time : goal.invariant-loop-time
invariant-loop-time l = after tick_once (l.times - l._time) l.book ≡ after tick_once l.times (book_of l.image)
