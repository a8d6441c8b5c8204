-- What save and load mean: load accepts the images of lawful books, and no others.
use Rattle.std.specs.Prelude.{◌≡◌, ℕ, ◌+◌, ◌*◌, ◌<◌, ◌↔◌, List, length, take, slice_index_or, Ok, Err, Result}
use Rattle.std.specs.Prelude.{All, IsOk}
use Rattle.book.specs.declared.image.TheConstants.{IMAGE_LEN, RECORDS}
use Rattle.layout.specs.declared.kind.TheConstants.{RECORD_LEN}
use Rattle.schedule.specs.InForce.{horizon}
use Rattle.schedule.specs.Overload.{NoneOverloaded}
use Rattle.layout.specs.declared.job.Job.{Job}
use Rattle.layout.specs.Jobs.{IsSized}
use Rattle.book.specs.declared.fault.BookFault.{BookFault}
use Rattle.book.specs.declared.fault.BookFault.TheVariants.{Image}
use Rattle.book.specs.Demands.{demands}
use Rattle.book.specs.Book.{View, IsWellFormed, IsLawful}
use Rattle.book.specs.Images.{image, load_outcome}

-- the job at the index, if there is one, has these sizes
abbrev pub IsSizedAt : ℕ → List Job → Type 0
IsSizedAt index jobs = (d : Job) → index < length jobs → IsSized (slice_index_or jobs index d)

-- a book of such jobs
abbrev pub AreSized : View → Type 0
AreSized b = All IsSized b.jobs

-- the first bytes of the list are the image of the book
abbrev pub Shows : List ℕ → View → Type 0
Shows list b = take IMAGE_LEN list ≡ image b

-- some well-formed book has an image with the same first k records as the list
abbrev pub CanBegin : ℕ → List ℕ → Type 0
CanBegin k list =
    (b : View) × IsWellFormed b × AreSized b × (take (RECORD_LEN * k) list ≡ take (RECORD_LEN * k) (image b))

-- the record k is the first that no image of a well-formed book has after those before it
pub record IsFirstWrong (k : ℕ) (list : List ℕ) : Type 0 where
  pub before : CanBegin k list
  pub none_with : CanBegin (k + 1) list → ⊥

-- what an answer of load, and the book afterwards, tell of a list that is long enough
pub record OnlyImages (list : List ℕ) (answer : Result (Unit {0}) BookFault) (after : View) : Type 0 where
  -- it is accepted just where it shows a lawful book
  pub accepted : IsOk answer ↔ ((b : View) × IsLawful b × AreSized b × Shows list b)
  -- and the book is that one then; so an accepted image is the only one of its book: its first 1,560 bytes are the
  -- image of the book afterwards
  pub same : (b : View) → IsLawful b → AreSized b → Shows list b → after ≡ b
  -- the record that a refusal names is the first wrong one
  pub named : (k : ℕ) → answer ≡ Err (Image k) → k < RECORDS → IsFirstWrong k list
  -- or overload alone is wrong
  pub overloaded : answer ≡ Err (Image RECORDS) → (b : View) × IsWellFormed b × AreSized b × Shows list b
      × (NoneOverloaded horizon (demands b.now b.jobs) b.top → ⊥)
  -- there is no number after that
  pub numbered : (k : ℕ) → answer ≡ Err (Image k) → k < 66

-- the list shows the book, and loading it gives the book back, whatever book was there
pub record LoadsBack (list : List ℕ) (b : View) : Type 0 where
  pub shows : Shows list b
  pub back : (before : View) → ((load_outcome before list).answer ≡ Ok tt) × ((load_outcome before list).book ≡ b)
