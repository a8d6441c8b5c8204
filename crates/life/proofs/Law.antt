-- The law of whole lives: each keeps the promises.
use Rattle.std.proofs.Common.{◌≡◌, List, [], ◌∷◌, ◌++◌, refl, sym, subst}
use Rattle.book.specs.Book.{View}
use Rattle.book.specs.Settings.{settings_outcome}
use Rattle.book.specs.Blocks.{blocks_outcome}
use Rattle.book.specs.Bills.{bill_of}
use Rattle.book.specs.Images.{save_outcome}
use Rattle.life.specs.Events.{Call, offer, strike, tick, settings, blocks, bill, save, Answer, done, served, number, refused, done_answer, number_answer, Event, plain_event, event_on, book_after}
use Rattle.life.specs.Tally.{Tally, tally_accepting, tally_answered, tally_after}
use Rattle.life.specs.Life.{Life, LeadTo, EndsIn, life_with}
use Rattle.life.specs.Promises.{KeepsCall, KeepsFrom, Keeps}
use Rattle.life.proofs.Agreeing.{Agrees, Kept}
use Rattle.life.proofs.Standing.{stands}
use Rattle.life.proofs.Offering.{offer_kept}
use Rattle.life.proofs.Striking.{strike_kept}
use Rattle.life.proofs.Ticking.{tick_kept}
use Rattle.life.proofs.Beginning.{begun_agrees}

-- a question changes neither the tally nor the book
asked : (t : Tally) (b : View) (c : Call) (answer : Answer) → tally_accepting t c [] ≡ t → Agrees t b → Agrees (tally_answered t (plain_event c answer) answer) b
asked t b c done same agrees = subst (λ x. Agrees x b) (sym same) agrees
asked t b c (served s) same agrees = subst (λ x. Agrees x b) (sym same) agrees
asked t b c (number n) same agrees = subst (λ x. Agrees x b) (sym same) agrees
asked t b c (refused fault) same agrees = agrees

-- every call keeps its promise
kept : (t : Tally) (b : View) (c : Call) → Agrees t b → Kept t b c
kept t b (offer j) agrees = offer_kept t b j agrees
kept t b (strike k) agrees = strike_kept t b k agrees
kept t b (tick list) agrees = tick_kept t b list agrees
kept t b (settings list) agrees = record { answers = tt; agrees = asked t b (settings list) (done_answer (settings_outcome b list).answer) refl agrees }
kept t b (blocks list) agrees = record { answers = tt; agrees = asked t b (blocks list) (number_answer (blocks_outcome b list).answer) refl agrees }
kept t b (bill draws) agrees = record { answers = tt; agrees = asked t b (bill draws) (number (bill_of draws b)) refl agrees }
kept t b (save list) agrees = record { answers = tt; agrees = asked t b (save list) (done_answer (save_outcome b list).answer) refl agrees }

-- so all events do
keeps_from : (t : Tally) (b : View) (es : List Event) (c : View) → Agrees t b → LeadTo b es c → KeepsFrom t b es
keeps_from t b [] c agrees leads = stands t b agrees
keeps_from t b (e ∷ es) c agrees leads =
    let k : Kept t b e.call = kept t b e.call agrees in
    let is : event_on b e.call ≡ e = sym leads.0 in (
      stands t b agrees,
      subst (λ x. KeepsCall t b e.call x.answer x.entries) is k.answers,
      keeps_from (tally_after t e) (book_after b e.call) es c (subst (λ x. Agrees (tally_after t x) (book_after b e.call)) is k.agrees) leads.1,
    )

-- the law
pub law : (life : Life) (b : View) → EndsIn life b → Keeps life
law life b ends = keeps_from _ _ life.events b (begun_agrees life.before life.beginning ends.accepted) ends.leads

-- one event more
leads_more : (b c : View) (es : List Event) (e : Event) → LeadTo b es c → e ≡ event_on c e.call → LeadTo b (es ++ e ∷ []) (book_after c e.call)
leads_more b c [] e leads is = subst (λ x. (e ≡ event_on x e.call) × (book_after x e.call ≡ book_after c e.call)) (sym leads) (is, refl)
leads_more b c (x ∷ xs) e leads is = (leads.0, leads_more (book_after b x.call) c xs e leads.1 is)

pub ends_longer : (life : Life) (b : View) (e : Event) → EndsIn life b → e ≡ event_on b e.call → EndsIn (life_with life e) (book_after b e.call)
ends_longer life b e ends is = record { accepted = ends.accepted; leads = leads_more _ b life.events e ends.leads is }
