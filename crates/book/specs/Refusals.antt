-- The refusals of the book: the number and the values of each fault.
use Rattle.std.specs.Prelude.{ℕ}
use Rattle.refusal.specs.declared.Layer.TheVariants.{Book}
use Rattle.refusal.specs.declared.Values.TheVariants.{Three}
use Rattle.refusal.specs.declared.Refusal.{Refusal}
use Rattle.refusal.specs.Refusals.{refusal_with}
use Rattle.layout.specs.Refusals.{read_refusal}
use Rattle.book.specs.declared.fault.BookFault.{BookFault}
use Rattle.book.specs.declared.fault.BookFault.TheVariants.{Read, Field, TicketOpen, Full, Overload, NotOpen}
use Rattle.book.specs.declared.fault.BookFault.TheVariants.{Short, LastTick, Image}
use Rattle.book.specs.declared.fault.BookField.{BookField}
use Rattle.book.specs.declared.fault.BookField.TheVariants.{Ticket, Arrival, Deadline, Work, Start, Top}

abbrev pub field_number : BookField → ℕ
field_number Ticket = 1
field_number Arrival = 2
field_number Deadline = 3
field_number Work = 4
field_number Start = 5
field_number Top = 6

-- a fault of the reader is told as the reader tells it
abbrev pub book_refusal : BookFault → Refusal
book_refusal (Read e) = read_refusal e
book_refusal (Field f) = refusal_with Book 5 (field_number f)
book_refusal (TicketOpen ticket) = refusal_with Book 6 ticket
book_refusal (Full places) = refusal_with Book 7 places
book_refusal (Overload start end work) = record { layer = Book; number = 8; values = Three start end work }
book_refusal (NotOpen ticket) = refusal_with Book 9 ticket
book_refusal (Short needed) = refusal_with Book 10 needed
book_refusal (LastTick now) = refusal_with Book 11 now
book_refusal (Image number) = refusal_with Book 13 number
