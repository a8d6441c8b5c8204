-- What each call answers, and the book that it leaves. The checks run in ascending order of the refusals' numbers and
-- fields.
use Rattle.std.specs.Prelude.{ℕ, ◌+◌, ◌||◌, if◌then◌else◌, List, length, Some, None, Option, ◌==◌, nat_lt, nat_le}
use Rattle.std.specs.Option.{option_map, option_or}
use Rattle.book.specs.declared.table.TheConstants.{PLACES}
use Rattle.planner.specs.declared.demands.TheConstants.{HORIZON}
use Rattle.schedule.specs.InForce.{horizon}
use Rattle.schedule.specs.Overload.{first_overload}
use Rattle.schedule.specs.Work.{work}
use Rattle.layout.specs.declared.job.Job.{Job}
use Rattle.book.specs.declared.fault.BookFault.{BookFault}
use Rattle.book.specs.declared.fault.BookFault.TheVariants.{Field, TicketOpen, Full, Overload, NotOpen}
use Rattle.book.specs.declared.fault.BookField.{BookField}
use Rattle.book.specs.declared.fault.BookField.TheVariants.{Ticket, Arrival, Deadline, Work, Start, Top}
use Rattle.book.specs.Jobs.{is_ticket_open, jobs_with, jobs_without}
use Rattle.book.specs.Demands.{demands}
use Rattle.book.specs.Outcomes.{Outcome, accepted_outcome, outcome}
use Rattle.book.specs.Book.{View, empty_book, book_with_jobs}
use Rattle.layout.specs.declared.job.TheConstants.{LAST_TICK}

-- the outcome of a call that brings no list and answers nothing but that it is done, where it leaves the book `after`
abbrev pub plain_outcome : Option BookFault → (before after : View) → Outcome (Unit {0}) BookFault (Unit {0})
plain_outcome fault before after = outcome fault before tt (accepted_outcome tt after tt)

-- why a book is not opened
abbrev pub open_fault : (start top : ℕ) → Option BookFault
open_fault start top =
    if nat_lt LAST_TICK start then Some (Field Start) else
    if top == 0 || nat_lt 255 top then Some (Field Top) else None

-- open sets now and the top, and empties the book
abbrev pub open_outcome : View → (start top : ℕ) → Outcome (Unit {0}) BookFault (Unit {0})
open_outcome b start top = plain_outcome (open_fault start top) b (empty_book start top)

-- why a strike is refused
abbrev pub strike_fault : View → ℕ → Option BookFault
strike_fault b ticket = if is_ticket_open ticket b.jobs then None else Some (NotOpen ticket)

-- a strike closes the open job with the ticket
abbrev pub strike_outcome : View → ℕ → Outcome (Unit {0}) BookFault (Unit {0})
strike_outcome b ticket = plain_outcome (strike_fault b ticket) b (book_with_jobs (jobs_without ticket b.jobs) b)

-- the first field of an offered job that has a value it can't have
abbrev pub field_fault : ℕ → Job → Option BookField
field_fault now j =
    if j.ticket == 0 then Some Ticket else
    if nat_lt j.arrival now then Some Arrival else
    if nat_le j.deadline j.arrival || (nat_lt (now + HORIZON) j.deadline || nat_lt LAST_TICK j.deadline)
    then Some Deadline else
    if j.work == 0 then Some Work else None

-- why an offered job finds no place: its ticket, or all places are taken
abbrev pub place_fault : List Job → Job → Option BookFault
place_fault jobs j =
    if is_ticket_open j.ticket jobs then Some (TicketOpen j.ticket) else
    if nat_le PLACES (length jobs) then Some (Full PLACES) else None

-- why an offer is refused before it is looked at for overload
abbrev pub early_fault : View → Job → Option BookFault
early_fault b j = option_or (option_map Field (field_fault b.now j)) (place_fault b.jobs j)

-- the first overloaded interval of a book, in ticks from now
abbrev pub first_overload_of : View → Option (ℕ × ℕ)
first_overload_of b = first_overload b.top (demands b.now b.jobs) 0 horizon

-- the fault of an interval names its ticks and the work inside
abbrev pub overload_fault_at : View → (ℕ × ℕ) → BookFault
overload_fault_at b ab = Overload (b.now + ab.0) (b.now + ab.1) (work (demands b.now b.jobs) ab.0 ab.1)

-- why a book is not lawful: it has an overloaded interval
abbrev pub overload_fault : View → Option BookFault
overload_fault b = option_map (overload_fault_at b) (first_overload_of b)

-- the book with the offered job counted as open
abbrev pub book_with_job : View → Job → View
book_with_job b j = book_with_jobs (jobs_with j b.jobs) b

-- why an offer is refused
abbrev pub offer_fault : View → Job → Option BookFault
offer_fault b j = option_or (early_fault b j) (overload_fault (book_with_job b j))

-- an offer adds the job to the open ones
abbrev pub offer_outcome : View → Job → Outcome (Unit {0}) BookFault (Unit {0})
offer_outcome b j = plain_outcome (offer_fault b j) b (book_with_job b j)
