-- A run of the bench over an input.
use Rattle.std.specs.Prelude.{◌≡◌, ℕ, ◌+◌, ◌-◌, ◌≤◌, Bool, true, false, if◌then◌else◌, List, length, None, Option}
use Rattle.layout.specs.Reading.{offset_after}
use Rattle.book.specs.Book.{View, empty_book}
use Rattle.transcript.specs.Lines.{PlainLine, RecordOutcome, outcome_at, line_at, is_over_after}

-- its input, the offset of the next record, the book, and whether a fault has ended it
pub record Run : Type 0 where
  pub input : List ℕ
  pub offset : ℕ
  pub book : View
  pub over : Bool

abbrev pub start_run : List ℕ → Run
start_run s = record { input = s; offset = 0; book = empty_book 0 4; over = false }

-- what the bench makes of the next record
abbrev pub run_outcome : Run → RecordOutcome
run_outcome r = outcome_at r.book r.input r.offset

-- the run with that record passed and worked
abbrev pub run_after_record : Run → Run
run_after_record r =
    record { input = r.input; offset = offset_after r.input r.offset; book = (run_outcome r).book; over = r.over }

-- what is said of the next record
abbrev pub next_line : Run → Option PlainLine
next_line r = if r.over then None else line_at r.book r.input r.offset

-- the run after it
abbrev pub next_run : Run → Run
next_run r = record {
  input = r.input;
  offset = if r.over then r.offset else offset_after r.input r.offset;
  book = if r.over then r.book else (run_outcome r).book;
  over = if r.over then true else is_over_after (run_outcome r).answer;
}

-- no fewer than the lines that are left: each passes a byte or more, but for a cut record, which ends the run
abbrev pub lines_left : Run → ℕ
lines_left r = length r.input - r.offset + (if r.over then 0 else 1)

-- what is said of the next record, and the run after it, whose offset lies within the input
pub record GivesNext (before : Run) (said : Option PlainLine) (after : Run) : Type 0 where
  pub line : said ≡ next_line before
  pub run : after ≡ next_run before
  pub within : after.offset ≤ length after.input
