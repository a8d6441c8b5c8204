-- How a worked book is told: by calls from a new book on, and by what further calls answer then.
use Rattle.std.specs.Prelude.{◌≡◌, ℕ, List, [], ◌∷◌, length, take, Ok, Err}
use Rattle.refusal.specs.declared.Layer.TheVariants.{Book, Power}
use Rattle.refusal.specs.declared.Values.TheVariants.{One, Three}
use Rattle.schedule.specs.InForce.{horizon, Same}
use Rattle.schedule.specs.Certificate.{listed}
use Rattle.power.specs.declared.fault.PowerFault.TheVariants.{Broken}
use Rattle.power.specs.Loading.{load_answer}
use Rattle.power.specs.Refusals.{power_refusal}
use Rattle.layout.specs.declared.job.Job.{Job}
use Rattle.book.specs.declared.blocks.CriticalBlock.{CriticalBlock}
use Rattle.book.specs.declared.fault.BookFault.TheVariants.{Overload}
use Rattle.book.specs.declared.tick.Entry.{Entry}
use Rattle.book.specs.Refusals.{book_refusal}
use Rattle.book.specs.Book.{View, empty_book}
use Rattle.book.specs.Calls.{open_outcome, offer_outcome}
use Rattle.book.specs.Settings.{settings_outcome}
use Rattle.book.specs.Blocks.{blocks_outcome}
use Rattle.book.specs.Ticks.{tick_outcome}

-- a job by its ticket, its window [arrival, deadline) and its work
abbrev pub job : (ticket arrival deadline work : ℕ) → Job
job ticket arrival deadline work = record { ticket = ticket; arrival = arrival; deadline = deadline; work = work }

-- a new book, opened at 0 with the top
abbrev pub book_at_0 : ℕ → View
book_at_0 top = (open_outcome (empty_book 0 1) 0 top).book

-- the book after an offer of each of the jobs
abbrev pub book_after_offers : View → List Job → View
book_after_offers b [] = b
book_after_offers b (j ∷ js) = book_after_offers (offer_outcome b j).book js

-- each of these offers is accepted
abbrev pub AllAccepted : View → List Job → Type 0
AllAccepted b [] = Unit {0}
AllAccepted b (j ∷ js) = ((offer_outcome b j).answer ≡ Ok tt) × AllAccepted (offer_outcome b j).book js

-- a new book is opened at 0 with the top, each offer is accepted, and so much is said of the book then
pub record Worked (top : ℕ) (jobs : List Job) (Says : View → Type 0) : Type 0 where
  pub opens : (open_outcome (empty_book 0 1) 0 top).answer ≡ Ok tt
  pub accepts : AllAccepted (book_at_0 top) jobs
  pub says : Says (book_after_offers (book_at_0 top) jobs)

-- given a list of 256 elements, settings writes xs there, and 0 after them
pub record Sets (b : View) (xs : List ℕ) : Type 0 where
  pub answer : (list : List ℕ) → length list ≡ 256 → (settings_outcome b list).answer ≡ Ok tt
  pub written : (list : List ℕ) → length list ≡ 256 → Same horizon (listed (settings_outcome b list).list) (listed xs)

-- given a list of 64 elements, blocks writes the critical blocks cs into the first elements, and answers their number
pub record HasBlocks (b : View) (cs : List CriticalBlock) : Type 0 where
  pub answer : (list : List CriticalBlock) → length list ≡ 64 → (blocks_outcome b list).answer ≡ Ok (length cs)
  pub written : (list : List CriticalBlock) → length list ≡ 64 → take (length cs) (blocks_outcome b list).list ≡ cs

-- given a list of 64 elements, tick writes the entries es into the first elements, and answers the setting and their
-- number
pub record TickServes (b : View) (setting : ℕ) (es : List Entry) : Type 0 where
  pub answer : (list : List Entry) → length list ≡ 64
      → (tick_outcome b list).answer ≡ Ok (record { setting = setting; count = length es })
  pub written : (list : List Entry) → length list ≡ 64 → take (length es) (tick_outcome b list).list ≡ es

-- an offer of the job is refused with the number 8, as the interval from start to end is overloaded by the work, and
-- leaves the book as it was
pub record Overloads (b : View) (j : Job) (start end work : ℕ) : Type 0 where
  pub answer : (offer_outcome b j).answer ≡ Err (Overload start end work)
  pub number :
      book_refusal (Overload start end work) ≡ record { layer = Book; number = 8; values = Three start end work }
  pub unchanged : (offer_outcome b j).book ≡ b

-- a list of draws is refused with the number 12, as it breaks a law first at the setting
pub record Breaks (draws : List ℕ) (setting : ℕ) : Type 0 where
  pub answer : load_answer draws ≡ Err (Broken setting)
  pub number : power_refusal (Broken setting) ≡ record { layer = Power; number = 12; values = One setting }
