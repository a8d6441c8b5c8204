-- What the requests of a console answer and leave, and the events that they are.
use Rattle.std.specs.Prelude.{List, Ok, Err, Result}
use Rattle.std.specs.Result.{result_map_both}
use Rattle.layout.specs.Content.{Content, offer as offer_record, strike as strike_record, tick as tick_record}
use Rattle.book.specs.declared.fault.BookFault.{BookFault}
use Rattle.book.specs.declared.tick.Entry.{Entry}
use Rattle.book.specs.Book.{View}
use Rattle.book.specs.Outcomes.{Outcome}
use Rattle.book.specs.Calls.{offer_outcome, strike_outcome}
use Rattle.book.specs.Ticks.{tick_outcome}
use Rattle.life.specs.declared.Request.{Request}
use Rattle.life.specs.declared.Request.TheVariants.{Offer, Strike, Tick}
use Rattle.life.specs.declared.Response.{Response}
use Rattle.life.specs.declared.Response.TheVariants.{Offered, Struck, Served}
use Rattle.life.specs.Events.{Call, offer, strike, tick, Answer, done, served, refused, entries_written, Event}

-- what a record asks of a book
abbrev pub request_of : Content → Request
request_of (offer_record j label) = Offer j
request_of (strike_record t) = Strike t
request_of tick_record = Tick

-- the outcome of a call of the book as that of a request: its answer as a response, and the list
abbrev pub outcome_as_response : {A L : Type 0} → (A → Response) → List Entry → Outcome A BookFault L
    → Outcome Response BookFault (List Entry)
outcome_as_response response list o =
    record { answer = result_map_both response (λ fault. fault) o.answer; book = o.book; list = list }

-- an offer, a strike or a tick
abbrev pub request_outcome : View → Request → List Entry → Outcome Response BookFault (List Entry)
request_outcome b (Offer j) list = outcome_as_response (λ u. Offered j.ticket) list (offer_outcome b j)
request_outcome b (Strike t) list = outcome_as_response (λ u. Struck t) list (strike_outcome b t)
request_outcome b Tick list = let o = tick_outcome b list in outcome_as_response Served o.list o

-- the call of a request that brings the list
abbrev pub call_of : Request → List Entry → Call
call_of (Offer j) list = offer j
call_of (Strike t) list = strike t
call_of Tick list = tick list

-- the answer to a request as that of a life
abbrev pub request_answer : Result Response BookFault → Answer
request_answer (Ok (Offered t)) = done
request_answer (Ok (Struck t)) = done
request_answer (Ok (Served s)) = served s
request_answer (Err fault) = refused fault

-- the event that a request with the list was, which answered so and left the list like this
abbrev pub event_of : Request → (before : List Entry) → Result Response BookFault → (after : List Entry) → Event
event_of request before answer after =
    let kept = request_answer answer in
    record { call = call_of request before; answer = kept; entries = entries_written kept after }
