-- Books as callers see them, and which are lawful.
use Rattle.std.specs.Prelude.{◌≡◌, ◌≢◌, ℕ, ◌+◌, ◌<◌, ◌≤◌, true, List, [], length, All}
use Rattle.std.specs.List.{AllPairs}
use Rattle.book.specs.declared.table.TheConstants.{PLACES}
use Rattle.planner.specs.declared.demands.TheConstants.{HORIZON}
use Rattle.schedule.specs.InForce.{horizon}
use Rattle.schedule.specs.Overload.{NoneOverloaded}
use Rattle.layout.specs.declared.job.Job.{Job}
use Rattle.layout.specs.declared.job.TheConstants.{LAST_TICK}
use Rattle.book.specs.Jobs.{is_before}
use Rattle.book.specs.Demands.{demands}

-- a book: now, the top, and the open jobs in the order of serving
pub record View : Type 0 where
  pub now : ℕ
  pub top : ℕ
  pub jobs : List Job

-- a job as it can be open at now
pub record IsOpenAt (now : ℕ) (j : Job) : Type 0 where
  pub some_ticket : 0 < j.ticket
  pub work_left : 0 < j.work
  pub not_due : now < j.deadline
  pub in_sight : j.deadline ≤ now + HORIZON
  pub in_time : j.deadline ≤ LAST_TICK
  pub some_window : j.arrival < j.deadline
  pub short_window : j.deadline ≤ j.arrival + HORIZON

-- jobs in the order of serving
abbrev pub IsInOrder : List Job → Type 0
IsInOrder jobs = AllPairs (λ j k. is_before j k ≡ true) jobs

-- a well-formed book: lawful, but for overload
pub record IsWellFormed (b : View) : Type 0 where
  pub in_time : b.now ≤ LAST_TICK
  pub top_positive : 1 ≤ b.top
  pub top_within : b.top ≤ 255
  pub few : length b.jobs ≤ PLACES
  pub tickets_differ : AllPairs (λ j k. j.ticket ≢ k.ticket) b.jobs
  pub in_order : IsInOrder b.jobs
  pub jobs_open : All (IsOpenAt b.now) b.jobs

-- a lawful book
pub record IsLawful (b : View) : Type 0 where
  pub well_formed : IsWellFormed b
  pub none_overloaded : NoneOverloaded horizon (demands b.now b.jobs) b.top

-- an empty book
abbrev pub empty_book : (now top : ℕ) → View
empty_book now top = record { now = now; top = top; jobs = [] }

-- a book with other open jobs
abbrev pub book_with_jobs : List Job → View → View
book_with_jobs jobs b = record { now = b.now; top = b.top; jobs = jobs }
