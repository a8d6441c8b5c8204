-- What a call answers and leaves.
use Rattle.std.specs.Prelude.{Some, None, Ok, Err, Option, Result}
use Rattle.book.specs.Book.{View}

-- what a call answers, the book that it leaves, and what the list that it was brought holds then (`tt` where it was
-- brought none)
pub record Outcome (Answer Fault Brought : Type 0) : Type 0 where
  pub answer : Result Answer Fault
  pub book : View
  pub list : Brought

-- a call that is not refused: its answer, the book and the list
abbrev pub accepted_outcome : {A F L : Type 0} → A → View → L → Outcome A F L
accepted_outcome answer book list = record { answer = Ok answer; book = book; list = list }

-- a call is refused with its fault, where there is one, and leaves the book and the list as they were; else this is
-- its outcome
abbrev pub outcome : {A F L : Type 0} → Option F → (before : View) (list : L) → Outcome A F L → Outcome A F L
outcome None before list done = done
outcome (Some fault) before list done = record { answer = Err fault; book = before; list = list }

-- an answer, unless there is a fault
abbrev pub ok_unless : {A F : Type 0} → Option F → A → Result A F
ok_unless None answer = Ok answer
ok_unless (Some fault) answer = Err fault
