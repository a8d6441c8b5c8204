-- What an answer to an offer tells of the open work and the offered work.
use Rattle.std.specs.Prelude.{◌≡◌, ℕ, ◌+◌, ◌<◌, ◌≤◌, ◌↔◌, None, Err, Result, IsOk}
use Rattle.schedule.specs.InForce.{horizon}
use Rattle.schedule.specs.Overload.{FirstOverload}
use Rattle.schedule.specs.Sharing.{Does}
use Rattle.schedule.specs.Work.{work}
use Rattle.layout.specs.declared.job.Job.{Job}
use Rattle.book.specs.declared.fault.BookFault.{BookFault}
use Rattle.book.specs.declared.fault.BookFault.TheVariants.{Overload}
use Rattle.book.specs.Demands.{demands}
use Rattle.book.specs.Book.{View}
use Rattle.book.specs.Calls.{early_fault, book_with_job}

-- settings up to the top
abbrev pub UpTo : ℕ → (ℕ → ℕ) → Type 0
UpTo top s = (t : ℕ) → t < horizon → s t ≤ top

-- some list of settings up to the top does the work of the open jobs
abbrev pub IsDoable : View → Type 0
IsDoable b = (s : ℕ → ℕ) × UpTo b.top s × Does horizon (demands b.now b.jobs) s

-- whether an answer is the refusal for overload
abbrev pub IsOverloadRefusal : Result (Unit {0}) BookFault → Type 0
IsOverloadRefusal answer = (start : ℕ) × (end : ℕ) × (work : ℕ) × (answer ≡ Err (Overload start end work))

-- a refusal for overload names the first overloaded interval of a book, and the work inside
abbrev pub NamesFirst : View → Result (Unit {0}) BookFault → Type 0
NamesFirst b answer = (x y w : ℕ) → answer ≡ Err (Overload (b.now + x) (b.now + y) w)
    → FirstOverload horizon (demands b.now b.jobs) b.top x y × (w ≡ work (demands b.now b.jobs) x y)

-- an offer that passes its other checks is accepted just where some list of settings up to the top does the open work
-- and the offered work, and refused for overload just where none does; the refusal names the first interval that is
-- overloaded with the offered job
pub record OnlyOverload (b : View) (j : Job) (answer : Result (Unit {0}) BookFault) : Type 0 where
  pub accepted : IsOk answer ↔ ((early_fault b j ≡ None) × IsDoable (book_with_job b j))
  pub refused : IsOverloadRefusal answer ↔ ((early_fault b j ≡ None) × (IsDoable (book_with_job b j) → ⊥))
  pub named : NamesFirst (book_with_job b j) answer
