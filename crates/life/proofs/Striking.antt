-- A strike keeps its promise, and leaves a tally and a book that agree.
use Rattle.std.proofs.Common.{ℕ, not, Option, Some, None, sym, subst}
use Rattle.std.specs.List.Sorted.{IsPermutation}
use Rattle.layout.specs.declared.job.Job.{Job}
use Rattle.book.specs.declared.fault.BookFault.{BookFault}
use Rattle.book.specs.Jobs.{has_ticket, jobs_without}
use Rattle.book.specs.Book.{View, book_with_jobs}
use Rattle.book.specs.Calls.{strike_fault, plain_outcome}
use Rattle.book.proofs.Keeping.{lawful-jobs_without}
use Rattle.life.specs.Events.{strike, done_answer, plain_event}
use Rattle.life.specs.Tally.{Tally, open_jobs, rows_with_last, row_struck, tally_answered}
use Rattle.life.proofs.Rows.{struck_open, struck_newest, struck_within}
use Rattle.life.proofs.Agreeing.{Agrees, Kept}
use Rattle.life.proofs.Reordering.{IsPermutation-filter}

module _ (t : Tally) (b : View) (k : ℕ) (agrees : Agrees t b) where
  -- the tally and the book after an accepted strike
  agrees_struck : Agrees (record { now = t.now; top = t.top; rows = rows_with_last k row_struck t.rows }) (book_with_jobs (jobs_without k b.jobs) b)
  agrees_struck = record {
    now = agrees.now;
    top = agrees.top;
    same = subst (λ js. IsPermutation js (jobs_without k b.jobs)) (sym (struck_open k t.rows agrees.newest)) (IsPermutation-filter (λ (j : Job). not (has_ticket k j)) (open_jobs t.rows) b.jobs agrees.same);
    newest = struck_newest k t.rows agrees.newest;
    within = struck_within k t.rows agrees.within;
    lawful = lawful-jobs_without k b agrees.lawful;
  }

  -- or after a refused one
  agrees_after : (o : Option BookFault) → let x = plain_outcome o b (book_with_jobs (jobs_without k b.jobs) b) in Agrees (tally_answered t (plain_event (strike k) (done_answer x.answer)) (done_answer x.answer)) x.book
  agrees_after None = agrees_struck
  agrees_after (Some f) = agrees

  pub strike_kept : Kept t b (strike k)
  strike_kept = record { answers = tt; agrees = agrees_after (strike_fault b k) }
