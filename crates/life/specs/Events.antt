-- The calls that a life is made of, and what they answer.
use Rattle.std.specs.Prelude.{ℕ, List, [], take, Ok, Err, Result}
use Rattle.layout.specs.declared.job.Job.{Job}
use Rattle.book.specs.declared.blocks.CriticalBlock.{CriticalBlock}
use Rattle.book.specs.declared.fault.BookFault.{BookFault}
use Rattle.book.specs.declared.tick.Entry.{Entry}
use Rattle.book.specs.declared.tick.Served.{Served}
use Rattle.book.specs.Book.{View}
use Rattle.book.specs.Calls.{offer_outcome, strike_outcome}
use Rattle.book.specs.Settings.{settings_outcome}
use Rattle.book.specs.Ticks.{tick_outcome}
use Rattle.book.specs.Blocks.{blocks_outcome}
use Rattle.book.specs.Bills.{bill_of}
use Rattle.book.specs.Images.{save_outcome}

-- a call with its arguments: the list that it brings, as that was, and the draws of the power model
pub data Call : Type 0 where
  offer : (job : Job) → Call
  strike : (ticket : ℕ) → Call
  tick : (list : List Entry) → Call
  settings : (list : List ℕ) → Call
  blocks : (list : List CriticalBlock) → Call
  bill : (draws : ℕ → ℕ) → Call
  save : (list : List ℕ) → Call

-- what a call answers: that it is done, what a tick served, a count or a bill, or why it is refused
pub data Answer : Type 0 where
  done : Answer
  served : (served : Served) → Answer
  number : (number : ℕ) → Answer
  refused : (fault : BookFault) → Answer

-- a call with its answer and the entries that it wrote
pub record Event : Type 0 where
  pub call : Call
  pub answer : Answer
  pub entries : List Entry

-- the answers of the calls as answers of a life
abbrev pub done_answer : Result (Unit {0}) BookFault → Answer
done_answer (Ok u) = done
done_answer (Err fault) = refused fault

abbrev pub served_answer : Result Served BookFault → Answer
served_answer (Ok s) = served s
served_answer (Err fault) = refused fault

abbrev pub number_answer : Result ℕ BookFault → Answer
number_answer (Ok n) = number n
number_answer (Err fault) = refused fault

-- the entries that a call with this answer wrote: those of a tick stand in the first elements of its list
abbrev pub entries_written : Answer → List Entry → List Entry
entries_written done list = []
entries_written (served s) list = take s.count list
entries_written (number n) list = []
entries_written (refused fault) list = []

-- a call that writes no entries
abbrev pub plain_event : Call → Answer → Event
plain_event call answer = record { call = call; answer = answer; entries = [] }

-- what a call on a book answers and writes
abbrev pub event_on : View → Call → Event
event_on b (offer j) = plain_event (offer j) (done_answer (offer_outcome b j).answer)
event_on b (strike t) = plain_event (strike t) (done_answer (strike_outcome b t).answer)
event_on b (tick list) =
    let t = tick_outcome b list in
    let answer = served_answer t.answer in
    record { call = tick list; answer = answer; entries = entries_written answer t.list }
event_on b (settings list) = plain_event (settings list) (done_answer (settings_outcome b list).answer)
event_on b (blocks list) = plain_event (blocks list) (number_answer (blocks_outcome b list).answer)
event_on b (bill draws) = plain_event (bill draws) (number (bill_of draws b))
event_on b (save list) = plain_event (save list) (done_answer (save_outcome b list).answer)

-- the book that it leaves: questions change none
abbrev pub book_after : View → Call → View
book_after b (offer j) = (offer_outcome b j).book
book_after b (strike t) = (strike_outcome b t).book
book_after b (tick list) = (tick_outcome b list).book
book_after b (settings list) = b
book_after b (blocks list) = b
book_after b (bill draws) = b
book_after b (save list) = b
