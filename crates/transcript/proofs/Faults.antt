-- A record that is there has a line, and no fault ends the run but a cut record.
use Rattle.std.specs.Prelude.{◌≡◌, ℕ, Bool, true, false, if◌then◌else◌, List, length, Some, None, Ok, Err, IsOk, Option, Result, ◌==◌, nat_lt, nat_le}
use Rattle.std.proofs.Common.{refl}
use Rattle.std.specs.Option.{option_map, option_or}
use Rattle.std.specs.Result.{result_map_both}
use Rattle.layout.specs.declared.fault.ReadFault.{ReadFault}
use Rattle.layout.specs.declared.fault.ReadFault.TheVariants.{Cut, UnknownKind, Forbidden}
use Rattle.layout.specs.Content.{Content}
use Rattle.layout.specs.Reading.{some_content}
use Rattle.book.specs.declared.fault.BookFault.{BookFault}
use Rattle.book.specs.declared.fault.BookFault.TheVariants.{Field, TicketOpen, Full, NotOpen, Short, LastTick}
use Rattle.book.specs.declared.fault.BookField.{BookField}
use Rattle.layout.specs.declared.job.Job.{Job}
use Rattle.book.specs.declared.tick.Entry.{Entry}
use Rattle.book.specs.Book.{View, book_with_jobs}
use Rattle.layout.specs.declared.job.TheConstants.{LAST_TICK}
use Rattle.book.specs.Lists.{short_fault}
use Rattle.book.specs.Outcomes.{Outcome, outcome}
use Rattle.book.specs.Calls.{plain_outcome, field_fault, place_fault, early_fault, overload_fault_at, first_overload_of, overload_fault, book_with_job, offer_fault, strike_fault}
use Rattle.book.specs.Jobs.{is_ticket_open, jobs_without}
use Rattle.book.specs.Ticks.{no_entries, tick_fault, tick_outcome}
use Rattle.life.specs.declared.Request.{Request}
use Rattle.life.specs.declared.Request.TheVariants.{Offer, Strike, Tick}
use Rattle.life.specs.declared.Response.{Response}
use Rattle.life.specs.declared.Response.TheVariants.{Offered, Struck, Served}
use Rattle.life.specs.Requests.{outcome_as_response, request_of, request_outcome}
use Rattle.transcript.specs.declared.fault.BenchFault.{BenchFault}
use Rattle.transcript.specs.declared.fault.BenchFault.TheVariants.{Book}
use Rattle.transcript.specs.Refusals.{ends_book}
use Rattle.transcript.specs.Lines.{PlainLine, line_for, content_outcome, read_outcome, line_of_answer, is_over_after}

-- a fault, if there is one, does not end the run
abbrev Quiet : Option BookFault → Type 0
Quiet None = Unit {0}
Quiet (Some f) = ends_book f ≡ false

quiet_if : (c : Bool) (o p : Option BookFault) → Quiet o → Quiet p → Quiet (if c then o else p)
quiet_if true o p ho hp = ho
quiet_if false o p ho hp = hp

quiet_or : (o p : Option BookFault) → Quiet o → Quiet p → Quiet (option_or o p)
quiet_or None p ho hp = hp
quiet_or (Some f) p ho hp = ho

quiet_field : (o : Option BookField) → Quiet (option_map Field o)
quiet_field None = tt
quiet_field (Some f) = refl

quiet_overload : (b : View) (o : Option (ℕ × ℕ)) → Quiet (option_map (overload_fault_at b) o)
quiet_overload b None = tt
quiet_overload b (Some ab) = refl

quiet_place : (jobs : List Job) (j : Job) → Quiet (place_fault jobs j)
quiet_place jobs j =
    quiet_if (is_ticket_open j.ticket jobs) (Some (TicketOpen j.ticket)) (if nat_le 64 (length jobs) then Some (Full 64) else None) refl
    (quiet_if (nat_le 64 (length jobs)) (Some (Full 64)) None refl tt)

quiet_offer : (b : View) (j : Job) → Quiet (offer_fault b j)
quiet_offer b j =
    quiet_or (early_fault b j) (overload_fault (book_with_job b j))
    (quiet_or (option_map Field (field_fault b.now j)) (place_fault b.jobs j) (quiet_field (field_fault b.now j)) (quiet_place b.jobs j))
    (quiet_overload (book_with_job b j) (first_overload_of (book_with_job b j)))

quiet_strike : (b : View) (ticket : ℕ) → Quiet (strike_fault b ticket)
quiet_strike b ticket = quiet_if (is_ticket_open ticket b.jobs) None (Some (NotOpen ticket)) tt refl

quiet_tick : (b : View) (list : List Entry) → Quiet (tick_fault b list)
quiet_tick b list =
    quiet_or (short_fault 64 list) (if b.now == LAST_TICK then Some (LastTick b.now) else None)
    (quiet_if (nat_lt (length list) 64) (Some (Short 64)) None refl tt)
    (quiet_if (b.now == LAST_TICK) (Some (LastTick b.now)) None refl tt)

-- an answer that does not end the run
abbrev Going : Result Response BookFault → Type 0
Going (Ok response) = Unit {0}
Going (Err f) = ends_book f ≡ false

-- so a call whose fault does not end it does not end it, however its outcome is told
outcome_going : {A L : Type 0} (o : Option BookFault) (b : View) (list : L) (done : Outcome A BookFault L) (response : A → Response)
    (left : List Entry) → Quiet o → IsOk done.answer → Going (outcome_as_response response left (outcome o b list done)).answer
outcome_going None b list done response left q ok = ok_going done.answer response ok
  where
    ok_going : {A : Type 0} (answer : Result A BookFault) (response : A → Response) → IsOk answer
        → Going (result_map_both response (λ fault. fault) answer)
    ok_going (Ok a) response ok = tt
    ok_going (Err f) response ok = absurd (cc)
outcome_going (Some f) b list done response left q ok = q

handled_going : (b : View) (r : Request) (list : List Entry) → Going (request_outcome b r list).answer
handled_going b (Offer j) list = outcome_going (offer_fault b j) b tt _ (λ u. Offered j.ticket) list (quiet_offer b j) refl
handled_going b (Strike t) list = outcome_going (strike_fault b t) b tt _ (λ u. Struck t) list (quiet_strike b t) refl
handled_going b Tick list = outcome_going (tick_fault b list) b list _ Served (tick_outcome b list).list (quiet_tick b list) refl

-- the answer of a step that is told from such an answer
abbrev response_line : (Response → PlainLine) → Result Response BookFault → Result (Option PlainLine) BenchFault
response_line line answer = result_map_both (λ response. Some (line response)) Book answer

answer_goes_on : (line : Response → PlainLine) (answer : Result Response BookFault) → Going answer → is_over_after (response_line line answer) ≡ false
answer_goes_on line (Ok response) g = refl
answer_goes_on line (Err f) g = g

content_goes_on : (b : View) (c : Content) → is_over_after (content_outcome b c).answer ≡ false
content_goes_on b c = answer_goes_on (line_for b c) (request_outcome b (request_of c) no_entries).answer (handled_going b (request_of c) no_entries)

-- a record that is not cut does not end the run
pub goes_on : (b : View) (r : Result Content ReadFault) → ((at : ℕ) → r ≡ Err (Cut at) → ⊥) → is_over_after (read_outcome b (some_content r)).answer ≡ false
goes_on b (Ok c) h = content_goes_on b c
goes_on b (Err (Cut at)) h = absurd (h at refl)
goes_on b (Err (UnknownKind at)) h = refl
goes_on b (Err (Forbidden at)) h = refl

-- an answered record has a line
answer_said : (line : Response → PlainLine) (offset : ℕ) (answer : Result Response BookFault) → line_of_answer offset (response_line line answer) ≡ None → ⊥
answer_said line offset (Ok response) n = cc
answer_said line offset (Err f) n = cc

-- so each record has one
pub said : (b : View) (offset : ℕ) (r : Result Content ReadFault) → line_of_answer offset (read_outcome b (some_content r)).answer ≡ None → ⊥
said b offset (Ok c) n = answer_said (line_for b c) offset (request_outcome b (request_of c) no_entries).answer n
said b offset (Err f) n = cc
