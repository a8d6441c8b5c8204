-- The tally of a life. It sees each call with its arguments, its answer and the entries that it wrote, one after the
-- other, and nothing else.
use Rattle.std.specs.Prelude.{ℕ, ◌+◌, Bool, true, false, not, ◌&&◌, if◌then◌else◌, List, [], ◌∷◌, map, filter}
use Rattle.std.specs.Prelude.{find, Option, nat_lt}
use Rattle.schedule.specs.Demands.{Demand}
use Rattle.layout.specs.declared.job.Job.{Job}
use Rattle.layout.specs.Jobs.{job_after}
use Rattle.book.specs.declared.tick.Entry.{Entry}
use Rattle.book.specs.Jobs.{has_ticket}
use Rattle.book.specs.Demands.{demands}
use Rattle.book.specs.Book.{View}
use Rattle.book.specs.Images.{book_in}
use Rattle.life.specs.Events.{Call, offer, strike, tick, settings, blocks, bill, save, Answer, done, served}
use Rattle.life.specs.Events.{number, refused, Event}

-- an accepted offer, or a job of a loaded image: the job as it came, the units that it has had, and whether it was
-- struck
pub record Row : Type 0 where
  pub job : Job
  pub had : ℕ
  pub struck : Bool

-- now, the top and the rows, the last one first; those of a load in the order of the image (their tickets differ)
pub record Tally : Type 0 where
  pub now : ℕ
  pub top : ℕ
  pub rows : List Row

-- a row is open until it is struck or has had all its work
abbrev pub is_row_open : Row → Bool
is_row_open r = not r.struck && nat_lt r.had r.job.work

-- the job of a row, with what it still lacks as its work left
abbrev pub job_of_row : Row → Job
job_of_row r = job_after r.job r.had

abbrev pub open_jobs : List Row → List Job
open_jobs rows = map job_of_row (filter is_row_open rows)

-- the tally as a book, with the open jobs in the order of the rows
abbrev pub book_of_tally : Tally → View
book_of_tally t = record { now = t.now; top = t.top; jobs = open_jobs t.rows }

-- the open work, seen from now
abbrev pub backlog : Tally → List Demand
backlog t = demands t.now (open_jobs t.rows)

-- whether a row has the ticket
abbrev pub row_has_ticket : ℕ → Row → Bool
row_has_ticket k r = has_ticket k r.job

-- the last row with a ticket
abbrev pub last_row : ℕ → List Row → Option Row
last_row k rows = find (row_has_ticket k) rows

-- the rows with the last one of a ticket changed
abbrev pub rows_with_last : ℕ → (Row → Row) → List Row → List Row
rows_with_last k change [] = []
rows_with_last k change (r ∷ rs) = if row_has_ticket k r then change r ∷ rs else r ∷ rows_with_last k change rs

-- a new row
abbrev pub row_of : Job → Row
row_of j = record { job = j; had = 0; struck = false }

-- the row marked as struck
abbrev pub row_struck : Row → Row
row_struck r = record { job = r.job; had = r.had; struck = true }

-- the row after so many units more
abbrev pub row_given : ℕ → Row → Row
row_given units r = record { job = r.job; had = r.had + units; struck = r.struck }

-- the units of the entries go to the last rows with their tickets
abbrev pub rows_after_entries : List Entry → List Row → List Row
rows_after_entries [] rows = rows
rows_after_entries (e ∷ es) rows = rows_after_entries es (rows_with_last e.ticket (row_given e.units) rows)

-- the tally after an accepted call
abbrev pub tally_accepting : Tally → Call → List Entry → Tally
tally_accepting t (offer j) es = record { now = t.now; top = t.top; rows = row_of j ∷ t.rows }
tally_accepting t (strike k) es = record { now = t.now; top = t.top; rows = rows_with_last k row_struck t.rows }
tally_accepting t (tick list) es = record { now = t.now + 1; top = t.top; rows = rows_after_entries es t.rows }
tally_accepting t (settings list) es = t
tally_accepting t (blocks list) es = t
tally_accepting t (bill draws) es = t
tally_accepting t (save list) es = t

-- a refused call changes nothing
abbrev pub tally_answered : Tally → Event → Answer → Tally
tally_answered t e done = tally_accepting t e.call e.entries
tally_answered t e (served s) = tally_accepting t e.call e.entries
tally_answered t e (number n) = tally_accepting t e.call e.entries
tally_answered t e (refused fault) = t

-- the tally after one event more
abbrev pub tally_after : Tally → Event → Tally
tally_after t e = tally_answered t e e.answer

-- the tally at the start: of an accepted open, and of an accepted load, whose jobs have had no units yet
abbrev pub tally_of_open : (start top : ℕ) → Tally
tally_of_open start top = record { now = start; top = top; rows = [] }

abbrev pub tally_of_load : List ℕ → Tally
tally_of_load list =
    let b = book_in list in
    record { now = b.now; top = b.top; rows = map row_of b.jobs }
