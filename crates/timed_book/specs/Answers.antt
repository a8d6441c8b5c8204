-- What C is told of an answer.
use Rattle.std.specs.Prelude.{ℕ, List, [], ◌∷◌, Ok, Err, Result}
use Rattle.refusal.specs.declared.Values.{Values}
use Rattle.refusal.specs.declared.Values.TheVariants.{One, Three}
use Rattle.book.specs.declared.fault.BookFault.{BookFault}
use Rattle.book.specs.declared.tick.Entry.{Entry}
use Rattle.book.specs.declared.tick.Served.{Served}
use Rattle.book.specs.Refusals.{book_refusal}
use Rattle.timed_book.specs.declared.TimedAnswer.{TimedAnswer}
use Rattle.timed_book.specs.declared.TimedEntry.{TimedEntry}

-- the values of a refusal, with zeros for those that it lacks
abbrev pub values_of : Values → List ℕ
values_of (One a) = a ∷ 0 ∷ 0 ∷ []
values_of (Three a b c) = a ∷ b ∷ c ∷ []

-- a refusal by its number and values
abbrev pub answer_of_refusal : BookFault → TimedAnswer
answer_of_refusal fault =
    record { number = (book_refusal fault).number; values = values_of (book_refusal fault).values }

-- an accepted offer, or its refusal
abbrev pub answer_of_offer : Result (Unit {0}) BookFault → TimedAnswer
answer_of_offer (Ok u) = record { number = 0; values = 0 ∷ 0 ∷ 0 ∷ [] }
answer_of_offer (Err fault) = answer_of_refusal fault

-- a served tick by its setting and the number of its entries, or its refusal
abbrev pub answer_of_tick : Result Served BookFault → TimedAnswer
answer_of_tick (Ok s) = record { number = 0; values = s.setting ∷ s.count ∷ 0 ∷ [] }
answer_of_tick (Err fault) = answer_of_refusal fault

-- what C sees of an entry, as the book's entry
abbrev pub entry_from_c : TimedEntry → Entry
entry_from_c s = record { ticket = s.ticket; units = s.units }
