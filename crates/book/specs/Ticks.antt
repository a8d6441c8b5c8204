-- What the call tick answers, the book that it leaves, and what its list holds afterwards.
use Rattle.std.specs.Prelude.{◌≡◌, ℕ, ◌+◌, Bool, if◌then◌else◌, List, length, map, take, replicate, sum_by, Some, None}
use Rattle.std.specs.Prelude.{Ok, Err, Option, Result, ◌==◌, nat_lt}
use Rattle.std.specs.Option.{option_or}
use Rattle.std.specs.List.{filter, zip}
use Rattle.book.specs.declared.table.TheConstants.{PLACES}
use Rattle.schedule.specs.Edf.{serve}
use Rattle.layout.specs.declared.job.Job.{Job}
use Rattle.layout.specs.Jobs.{job_after}
use Rattle.layout.specs.declared.job.TheConstants.{LAST_TICK}
use Rattle.book.specs.declared.fault.BookFault.{BookFault}
use Rattle.book.specs.declared.fault.BookFault.TheVariants.{LastTick}
use Rattle.book.specs.declared.tick.Entry.{Entry}
use Rattle.book.specs.declared.tick.Served.{Served}
use Rattle.book.specs.Demands.{demands}
use Rattle.book.specs.Book.{View}
use Rattle.book.specs.Lists.{list_with, short_fault}
use Rattle.book.specs.Outcomes.{Outcome, accepted_outcome, outcome}
use Rattle.book.specs.Settings.{settings_of}

-- a list for the entries of a tick, in which none is written yet
abbrev pub no_entries : List Entry
no_entries = replicate PLACES (record { ticket = 0; units = 0 })

-- each job with what it gets of u units at now, in the order of serving
abbrev pub grants : ℕ → ℕ → List Job → List (Job × ℕ)
grants now u jobs = zip jobs (serve u (demands now jobs))

-- a job after what it gets: so many units less are left
abbrev pub worked_job : (Job × ℕ) → Job
worked_job s = job_after s.0 s.1

abbrev pub entry_of : (Job × ℕ) → Entry
entry_of s = record { ticket = s.0.ticket; units = s.1 }

-- an entry for each job that gets units
abbrev pub entries_of : List (Job × ℕ) → List Entry
entries_of ss = map entry_of (filter (λ s. nat_lt 0 s.1) ss)

-- whether a job has work left
abbrev pub has_work : Job → Bool
has_work j = nat_lt 0 j.work

-- the grants of the tick at now, which serves the first setting in force
abbrev pub grants_of : View → List (Job × ℕ)
grants_of b = grants b.now (settings_of b 0) b.jobs

-- the book one tick later: the jobs are worked on, and those with no work left close
abbrev pub book_after_tick : View → View
book_after_tick b = record { now = b.now + 1; top = b.top; jobs = filter has_work (map worked_job (grants_of b)) }

-- why a tick is refused
abbrev pub tick_fault : View → List Entry → Option BookFault
tick_fault b list =
    option_or (short_fault PLACES list) (if b.now == LAST_TICK then Some (LastTick b.now) else None)

-- a tick serves the open jobs: it answers its setting and the count of entries, which stand in the first elements of
-- the list
abbrev pub tick_outcome : View → List Entry → Outcome Served BookFault (List Entry)
tick_outcome b list =
    let es = entries_of (grants_of b) in
    let served : Served = record { setting = settings_of b 0; count = length es } in
    outcome (tick_fault b list) b list (accepted_outcome served (book_after_tick b) (list_with es list))

-- the units of the entries that a served tick wrote add up to its setting
abbrev pub GivesSetting : Result Served BookFault → List Entry → Type 0
GivesSetting (Ok s) list = sum_by (λ e. e.units) (take s.count list) ≡ s.setting
GivesSetting (Err f) list = Unit {0}
