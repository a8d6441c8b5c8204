-- The event that a request is.
use Rattle.std.proofs.Common.{◌≡◌, ℕ, List, Ok, Err, Result, refl, sym, subst, ◌∙◌}
use Rattle.std.specs.Result.{result_map_both}
use Rattle.book.specs.declared.fault.BookFault.{BookFault}
use Rattle.book.specs.declared.tick.Entry.{Entry}
use Rattle.book.specs.declared.tick.Served.{Served}
use Rattle.book.specs.Book.{View}
use Rattle.book.specs.Calls.{offer_outcome, strike_outcome}
use Rattle.book.specs.Ticks.{tick_outcome}
use Rattle.life.specs.declared.Request.{Request}
use Rattle.life.specs.declared.Request.TheVariants.{Offer, Strike, Tick}
use Rattle.life.specs.declared.Response.{Response}
use Rattle.life.specs.declared.Response.TheVariants.{Offered, Struck, Served as TickServed}
use Rattle.life.specs.Events.{Call, offer, strike, tick, done_answer, served_answer, entries_written, Answer, Event, plain_event, event_on, book_after}
use Rattle.life.specs.Life.{Life, EndsIn, life_with}
use Rattle.life.specs.Promises.{Keeps}
use Rattle.life.specs.Requests.{request_outcome, call_of, request_answer, event_of}
use Rattle.life.proofs.Law.{law, ends_longer}

-- a call with what it answered and what its list holds afterwards
abbrev event_with : Call → Answer → List Entry → Event
event_with c answer list = record { call = c; answer = answer; entries = entries_written answer list }

-- the event of a call that writes no entries
offered_event : (c : Call) (ticket : ℕ) (answer : Result (Unit {0}) BookFault) (list : List Entry)
    → event_with c (request_answer (result_map_both (λ u. Offered ticket) (λ fault. fault) answer)) list ≡ plain_event c (done_answer answer)
offered_event c ticket (Ok u) list = refl
offered_event c ticket (Err fault) list = refl

struck_event : (c : Call) (ticket : ℕ) (answer : Result (Unit {0}) BookFault) (list : List Entry)
    → event_with c (request_answer (result_map_both (λ u. Struck ticket) (λ fault. fault) answer)) list ≡ plain_event c (done_answer answer)
struck_event c ticket (Ok u) list = refl
struck_event c ticket (Err fault) list = refl

-- and of one that does
served_event : (c : Call) (answer : Result Served BookFault) (list : List Entry)
    → event_with c (request_answer (result_map_both TickServed (λ fault. fault) answer)) list ≡ event_with c (served_answer answer) list
served_event c (Ok s) list = refl
served_event c (Err fault) list = refl

-- a handled request is the event of its call
handled_event : (b : View) (r : Request) (list : List Entry) → event_of r list (request_outcome b r list).answer (request_outcome b r list).list ≡ event_on b (call_of r list)
handled_event b (Offer j) list = offered_event (offer j) j.ticket (offer_outcome b j).answer list
handled_event b (Strike t) list = struck_event (strike t) t (strike_outcome b t).answer list
handled_event b Tick list = served_event (tick list) (tick_outcome b list).answer (tick_outcome b list).list

handled_book : (b : View) (r : Request) (list : List Entry) → (request_outcome b r list).book ≡ book_after b (call_of r list)
handled_book b (Offer j) list = refl
handled_book b (Strike t) list = refl
handled_book b Tick list = refl

-- every life goes on with it, and keeps the promises
pub lawful_handled : (b : View) (r : Request) (list : List Entry) (answer : Result Response BookFault) (after : View) (holds : List Entry)
    → answer ≡ (request_outcome b r list).answer → after ≡ (request_outcome b r list).book → holds ≡ (request_outcome b r list).list
    → (life : Life) → EndsIn life b → EndsIn (life_with life (event_of r list answer holds)) after × Keeps (life_with life (event_of r list answer holds))
lawful_handled b r list answer after holds answered left wrote life ends =
    let e = event_of r list answer holds in
    let is : e ≡ event_on b (call_of r list) = (λ i. event_of r list (answered i) (wrote i)) ∙ handled_event b r list in
    let then : EndsIn (life_with life e) after = subst (EndsIn (life_with life e)) (sym (left ∙ handled_book b r list)) (ends_longer life b e ends is) in
    (then, law (life_with life e) after then)
