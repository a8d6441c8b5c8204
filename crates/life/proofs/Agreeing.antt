-- A tally and a book that agree: the open rows are the book's jobs.
use Rattle.std.proofs.Common.{◌≡◌}
use Rattle.std.specs.List.Sorted.{IsPermutation}
use Rattle.book.specs.Book.{View, IsLawful}
use Rattle.life.specs.Events.{Call, event_on, book_after}
use Rattle.life.specs.Tally.{Tally, open_jobs, tally_after}
use Rattle.life.specs.Promises.{KeepsCall}
use Rattle.life.proofs.Rows.{Newest, Within}

-- at each moment of a life its tally agrees with its book
pub record Agrees (t : Tally) (b : View) : Type 0 where
  pub now : t.now ≡ b.now
  pub top : t.top ≡ b.top
  pub same : IsPermutation (open_jobs t.rows) b.jobs
  pub newest : Newest t.rows
  pub within : Within t.rows
  pub lawful : IsLawful b

-- a call that is answered as promised, and that leaves a tally and a book that agree
pub record Kept (t : Tally) (b : View) (c : Call) : Type 0 where
  pub answers : KeepsCall t b c (event_on b c).answer (event_on b c).entries
  pub agrees : Agrees (tally_after t (event_on b c)) (book_after b c)
