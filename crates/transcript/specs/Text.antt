-- The transcript as text: fields with one space between, and a line feed after each line.
use Rattle.std.specs.Prelude.{ℕ, ◌+◌, ◌-◌, ◌*◌, ◌/◌, List, [], ◌∷◌, ◌++◌, length, Some, None, codes, decimal, Option}
use Rattle.std.specs.List.{range_with_len, flat_map}
use Rattle.layout.specs.declared.kind.TheConstants.{RECORD_LEN}
use Rattle.refusal.specs.Text.{spaced_number, refusal_text}
use Rattle.book.specs.declared.tick.Entry.{Entry}
use Rattle.transcript.specs.Refusals.{bench_refusal}
use Rattle.transcript.specs.Lines.{PlainLine, offered, struck, ticked, refused, line_at, book_before}

-- a space, then the ticket and the units
abbrev pub entry_text : Entry → List ℕ
entry_text e = spaced_number e.ticket ++ (codes ":" ++ decimal e.units)

-- a tick
abbrev pub tick_text : (now setting : ℕ) → List Entry → List ℕ
tick_text now setting entries =
    codes "T" ++ (spaced_number now ++ (spaced_number setting ++ flat_map entry_text entries))

-- a line, without its line feed
abbrev pub plain_line_text : PlainLine → List ℕ
plain_line_text (offered t l) = codes "O" ++ (spaced_number t ++ (codes " ok " ++ l))
plain_line_text (struck t) = codes "S" ++ (spaced_number t ++ codes " ok")
plain_line_text (ticked now setting entries) = tick_text now setting entries
plain_line_text (refused offset f) = codes "R" ++ (spaced_number offset ++ (32 ∷ refusal_text (bench_refusal f)))

-- with its line feed, where there is one
abbrev pub line_text_of : Option PlainLine → List ℕ
line_text_of (Some line) = plain_line_text line ++ (10 ∷ [])
line_text_of None = []

-- how many records begin in the input
abbrev pub record_count : List ℕ → ℕ
record_count input = (length input + RECORD_LEN - 1) / RECORD_LEN

-- the line of the record k
abbrev pub text_at : List ℕ → ℕ → List ℕ
text_at input k = line_text_of (line_at (book_before input k) input (RECORD_LEN * k))

-- a line for each record, in their order
abbrev pub transcript : List ℕ → List ℕ
transcript input = flat_map (text_at input) (range_with_len 0 (record_count input))
