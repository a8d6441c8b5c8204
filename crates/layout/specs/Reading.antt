-- What the reader answers.
use Rattle.std.specs.Prelude.{ℕ, ◌+◌, ◌-◌, if◌then◌else◌, ◌==◌, nat_lt, List, length, drop, slice_index}
use Rattle.std.specs.Prelude.{Some, None, Ok, Err, Option, Result}
use Rattle.layout.specs.declared.kind.TheConstants.{RECORD_LEN}
use Rattle.layout.specs.declared.fault.ReadFault.{ReadFault}
use Rattle.layout.specs.declared.fault.ReadFault.TheVariants.{Cut, UnknownKind, Forbidden}
use Rattle.layout.specs.declared.kind.Kind.{Kind}
use Rattle.layout.specs.declared.kind.Kind.TheVariants.{Offer, Strike, Tick}
use Rattle.layout.specs.BigEndian.{part}
use Rattle.layout.specs.Content.{Content, offer, strike, tick}
use Rattle.layout.specs.Jobs.{job_in}
use Rattle.layout.specs.Label.{trimmed_label}
use Rattle.layout.specs.Layout.{label_in, kind_of, first_forbidden}

-- what 24 bytes of a kind say
abbrev pub content_in : Kind → List ℕ → Content
content_in Offer b = offer (job_in b) (trimmed_label (label_in b))
content_in Strike b = strike (job_in b).ticket
content_in Tick b = tick

-- the content of the record at the offset, unless its byte i is forbidden
abbrev pub content_unless_forbidden : (offset : ℕ) → Option ℕ → Content → Result Content ReadFault
content_unless_forbidden offset None c = Ok c
content_unless_forbidden offset (Some i) c = Err (Forbidden (offset + i))

abbrev pub parse_answer_by : (offset : ℕ) → List ℕ → Option Kind → Result Content ReadFault
parse_answer_by offset b None = Err (UnknownKind offset)
parse_answer_by offset b (Some k) = content_unless_forbidden offset (first_forbidden k 1 (drop 1 b)) (content_in k b)

-- the 24 bytes b that stand at the offset
abbrev pub parse_answer : (offset : ℕ) → List ℕ → Result Content ReadFault
parse_answer offset b = parse_answer_by offset b (kind_of (slice_index b 0))

abbrev pub some_content : Result Content ReadFault → Result (Option Content) ReadFault
some_content (Ok c) = Ok (Some c)
some_content (Err e) = Err e

-- what is read at an offset of the input; none is the end
abbrev pub read_answer : (input : List ℕ) (offset : ℕ) → Result (Option Content) ReadFault
read_answer input offset =
    if length input - offset == 0 then Ok None else
    if nat_lt (length input - offset) RECORD_LEN then Err (Cut offset) else
    some_content (parse_answer offset (part offset RECORD_LEN input))

-- the offset afterwards: a whole record is passed over, good or bad; a cut one is not
abbrev pub offset_after : (input : List ℕ) (offset : ℕ) → ℕ
offset_after input offset = if nat_lt (length input - offset) RECORD_LEN then offset else offset + RECORD_LEN

-- where a reader is: its input, and the offset of the next record
pub record Position : Type 0 where
  pub input : List ℕ
  pub offset : ℕ

-- where it is after one record
abbrev pub position_after : Position → Position
position_after p = record { input = p.input; offset = offset_after p.input p.offset }
