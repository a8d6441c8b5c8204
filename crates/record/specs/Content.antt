-- The records and answers of the code as plain values, wherever a label lies.
use Rattle.std.specs.Prelude.{Some, None, Ok, Err, Option, Result}
use Rattle.layout.specs.declared.fault.ReadFault.{ReadFault}
use Rattle.layout.specs.Content.{Content, offer, strike, tick}
use Rattle.record.specs.declared.content.Record.{Record}
use Rattle.record.specs.declared.content.Record.TheVariants.{Offer, Strike, Tick}

abbrev pub content_of : Record → Content
content_of (Offer o) = offer o.job o.label.now
content_of (Strike t) = strike t
content_of Tick = tick

abbrev pub parse_answer_of : Result Record ReadFault → Result Content ReadFault
parse_answer_of (Ok r) = Ok (content_of r)
parse_answer_of (Err e) = Err e

abbrev pub read_answer_of : Result (Option Record) ReadFault → Result (Option Content) ReadFault
read_answer_of (Ok None) = Ok None
read_answer_of (Ok (Some r)) = Ok (Some (content_of r))
read_answer_of (Err e) = Err e
