-- Lives of a book.
use Rattle.std.specs.Prelude.{◌≡◌, ℕ, List, [], ◌∷◌, ◌++◌, Ok}
use Rattle.book.specs.Book.{View}
use Rattle.book.specs.declared.fault.BookFault.{BookFault}
use Rattle.book.specs.Outcomes.{Outcome}
use Rattle.book.specs.Calls.{open_outcome}
use Rattle.book.specs.Images.{load_outcome}
use Rattle.life.specs.Events.{Event, event_on, book_after}
use Rattle.life.specs.Tally.{Tally, tally_of_open, tally_of_load}

-- how a life begins
pub data Beginning : Type 0 where
  opening : (start top : ℕ) → Beginning
  loading : (list : List ℕ) → Beginning

-- what the beginning answers, and the book that it leaves, where b was there before
abbrev pub beginning_outcome : View → Beginning → Outcome (Unit {0}) BookFault (Unit {0})
beginning_outcome b (opening start top) = open_outcome b start top
beginning_outcome b (loading list) = load_outcome b list

abbrev pub tally_of : Beginning → Tally
tally_of (opening start top) = tally_of_open start top
tally_of (loading list) = tally_of_load list

-- a life: the book before it, its beginning, and the events since, in their order
pub record Life : Type 0 where
  pub before : View
  pub beginning : Beginning
  pub events : List Event

-- the events lead from one book to the other: each is what its call answers and writes on the book that it finds
abbrev pub LeadTo : View → List Event → View → Type 0
LeadTo b [] c = b ≡ c
LeadTo b (e ∷ es) c = (e ≡ event_on b e.call) × LeadTo (book_after b e.call) es c

-- a life, begun by an accepted call, that ends in the book
pub record EndsIn (life : Life) (b : View) : Type 0 where
  pub accepted : (beginning_outcome life.before life.beginning).answer ≡ Ok tt
  pub leads : LeadTo (beginning_outcome life.before life.beginning).book life.events b

-- a life with one event more
abbrev pub life_with : Life → Event → Life
life_with life e = record { before = life.before; beginning = life.beginning; events = life.events ++ (e ∷ []) }
