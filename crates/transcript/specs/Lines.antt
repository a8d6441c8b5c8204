-- What the bench says of each record, worked with a book.
use Rattle.std.specs.Prelude.{ℕ, ◌*◌, zero, suc, Bool, false, List, take, Some, None, Ok, Err}
use Rattle.std.specs.Prelude.{codes, Option, Result}
use Rattle.std.specs.Result.{result_map_both}
use Rattle.layout.specs.declared.kind.TheConstants.{RECORD_LEN}
use Rattle.layout.specs.declared.fault.ReadFault.{ReadFault}
use Rattle.layout.specs.Content.{Content, label_of}
use Rattle.layout.specs.Label.{shown_label}
use Rattle.layout.specs.Reading.{read_answer}
use Rattle.book.specs.declared.fault.BookFault.TheVariants.{Read}
use Rattle.book.specs.declared.tick.Entry.{Entry}
use Rattle.book.specs.Book.{View, empty_book}
use Rattle.book.specs.Outcomes.{Outcome, accepted_outcome}
use Rattle.book.specs.Ticks.{no_entries, entries_of, grants_of}
use Rattle.life.specs.declared.Response.{Response}
use Rattle.life.specs.declared.Response.TheVariants.{Offered as WasOffered, Struck as WasStruck, Served}
use Rattle.life.specs.Requests.{request_of, request_outcome}
use Rattle.transcript.specs.declared.fault.BenchFault.{BenchFault}
use Rattle.transcript.specs.declared.fault.BenchFault.TheVariants.{Book}
use Rattle.transcript.specs.declared.line.Line.{Line}
use Rattle.transcript.specs.declared.line.Line.TheVariants.{Offered, Struck, Ticked, Refused}
use Rattle.transcript.specs.declared.line.ServedTick.{ServedTick}
use Rattle.transcript.specs.Refusals.{ends_run}

-- a line as plain values: a job that the book took, one that it closed, a tick that it served, or a refusal
pub data PlainLine : Type 0 where
  offered : (ticket : ℕ) (label : List ℕ) → PlainLine
  struck : (ticket : ℕ) → PlainLine
  ticked : (now setting : ℕ) (entries : List Entry) → PlainLine
  refused : (offset : ℕ) (fault : BenchFault) → PlainLine

-- what a tick of the code says
abbrev pub plain_tick : ServedTick → PlainLine
plain_tick t = ticked t.now t.setting (take t.count t.list)

-- what a line of the code says
abbrev pub plain_line : Line → PlainLine
plain_line (Offered ticket label) = offered ticket label.now
plain_line (Struck ticket) = struck ticket
plain_line (Ticked t) = plain_tick t
plain_line (Refused offset f) = refused offset f

-- the line of a record that the book does not refuse, by the response, where b is the book before
abbrev pub line_for : View → Content → Response → PlainLine
line_for b c (WasOffered t) = offered t (shown_label (label_of c) (codes "house"))
line_for b c (WasStruck t) = struck t
line_for b c (Served s) = ticked b.now s.setting (entries_of (grants_of b))

-- what the bench makes of a record: its line or the fault (none at the end of the input), and the book afterwards
abbrev pub RecordOutcome : Type 0
RecordOutcome = Outcome (Option PlainLine) BenchFault (Unit {0})

-- a record worked with a book, as its request is handled
abbrev pub content_outcome : View → Content → RecordOutcome
content_outcome b c =
    let o = request_outcome b (request_of c) no_entries in
    let answer = result_map_both (λ response. Some (line_for b c response)) Book o.answer in
    record { answer = answer; book = o.book; list = tt }

-- a record that was read, or none at the end of the input, with a book
abbrev pub read_outcome : View → Result (Option Content) ReadFault → RecordOutcome
read_outcome b (Ok None) = accepted_outcome None b tt
read_outcome b (Ok (Some c)) = content_outcome b c
read_outcome b (Err e) = record { answer = Err (Book (Read e)); book = b; list = tt }

-- what the bench makes of the record at an offset of the input, with a book
abbrev pub outcome_at : View → List ℕ → ℕ → RecordOutcome
outcome_at b input offset = read_outcome b (read_answer input offset)

-- a fault is a line too, with the offset of its record
abbrev pub line_of_answer : ℕ → Result (Option PlainLine) BenchFault → Option PlainLine
line_of_answer offset (Ok line) = line
line_of_answer offset (Err f) = Some (refused offset f)

-- the line of the record at an offset of the input, with a book
abbrev pub line_at : View → List ℕ → ℕ → Option PlainLine
line_at b input offset = line_of_answer offset (outcome_at b input offset).answer

-- the book before the record k: the records before it are worked with a book at 0 with top 4
abbrev pub book_before : List ℕ → ℕ → View
book_before input zero = empty_book 0 4
book_before input (suc k) = (outcome_at (book_before input k) input (RECORD_LEN * k)).book

-- whether the run ends with this
abbrev pub is_over_after : Result (Option PlainLine) BenchFault → Bool
is_over_after (Ok e) = false
is_over_after (Err f) = ends_run f

-- the code's answers as plain values
abbrev pub plain_answer : Result (Option Line) BenchFault → Result (Option PlainLine) BenchFault
plain_answer (Ok None) = Ok None
plain_answer (Ok (Some l)) = Ok (Some (plain_line l))
plain_answer (Err f) = Err f

abbrev pub plain_option : Option Line → Option PlainLine
plain_option None = None
plain_option (Some l) = Some (plain_line l)
