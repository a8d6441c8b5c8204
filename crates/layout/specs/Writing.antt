-- What the writer writes, and when it refuses.
use Rattle.std.specs.Prelude.{ℕ, if◌then◌else◌, List, ◌++◌, length, drop, replicate, Ok, Err, Result, nat_lt}
use Rattle.layout.specs.declared.kind.TheConstants.{LABEL_LEN, RECORD_LEN}
use Rattle.layout.specs.declared.fault.WriteFault.{WriteFault}
use Rattle.layout.specs.declared.fault.WriteFault.TheVariants.{Field, Short}
use Rattle.layout.specs.declared.fault.WrittenField.TheVariants.{Arrival, Deadline, Label}
use Rattle.layout.specs.declared.job.Job.{Job}
use Rattle.layout.specs.declared.kind.Kind.TheVariants.{Offer, Strike, Tick}
use Rattle.layout.specs.Content.{Content, offer, strike, tick}
use Rattle.layout.specs.Jobs.{record_bytes}
use Rattle.layout.specs.declared.job.TheConstants.{LAST_TICK}
use Rattle.layout.specs.Label.{is_label}
use Rattle.layout.specs.Layout.{kind_byte}

-- a ticket where a job has its own, and zeros for its other numbers
abbrev pub bare_job : (ticket : ℕ) → Job
bare_job t = record { ticket = t; arrival = 0; deadline = 0; work = 0 }

-- the label of a strike or a tick
abbrev pub blank_label : List ℕ
blank_label = replicate LABEL_LEN 0x20

-- the 24 bytes of a record: a strike has no number but its ticket, a tick none
abbrev pub encoding_of : Content → List ℕ
encoding_of (offer j l) = record_bytes (kind_byte Offer) j l
encoding_of (strike t) = record_bytes (kind_byte Strike) (bare_job t) blank_label
encoding_of tick = record_bytes (kind_byte Tick) (bare_job 0) blank_label

-- an offer's fields fit their bytes: arrival, deadline, label, in this order
abbrev pub offer_check : Job → (label : List ℕ) → Result (Unit {0}) WriteFault
offer_check j l =
    if nat_lt LAST_TICK j.arrival then Err (Field Arrival) else
    if nat_lt LAST_TICK j.deadline then Err (Field Deadline) else
    if is_label l then Ok tt else Err (Field Label)

abbrev pub write_check : Content → Result (Unit {0}) WriteFault
write_check (offer j l) = offer_check j l
write_check (strike t) = Ok tt
write_check tick = Ok tt

-- the bytes of a record that the writer takes, or its refusal
abbrev pub encode_answer : Result (Unit {0}) WriteFault → List ℕ → Result (List ℕ) WriteFault
encode_answer (Ok u) b = Ok b
encode_answer (Err e) b = Err e

abbrev pub room_check : (out : List ℕ) → Result (Unit {0}) WriteFault → Result (Unit {0}) WriteFault
room_check out (Err e) = Err e
room_check out (Ok u) = if nat_lt (length out) RECORD_LEN then Err (Short RECORD_LEN) else Ok tt

-- what the writer answers: the fields come before the room
abbrev pub write_answer : Content → (out : List ℕ) → Result (Unit {0}) WriteFault
write_answer c out = room_check out (write_check c)

abbrev pub list_after_write : Result (Unit {0}) WriteFault → (bytes out : List ℕ) → List ℕ
list_after_write (Ok u) b out = b ++ drop RECORD_LEN out
list_after_write (Err e) b out = out

-- what the list brought holds afterwards
abbrev pub list_after : Content → (out : List ℕ) → List ℕ
list_after c out = list_after_write (write_answer c out) (encoding_of c) out
