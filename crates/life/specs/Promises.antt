-- What is promised of every life, at each of its moments and of each of its events.
use Rattle.std.specs.Prelude.{◌≡◌, ℕ, ◌<◌, ◌≤◌, true, false, ◌⊎◌, List, [], ◌∷◌, length, replicate, All, Some}
use Rattle.std.specs.Prelude.{None, sum_by}
use Rattle.power.specs.Laws.{Lawful}
use Rattle.schedule.specs.Sharing.{Does}
use Rattle.schedule.specs.Draws.{drawn}
use Rattle.schedule.specs.InForce.{horizon}
use Rattle.schedule.specs.Certificate.{listed}
use Rattle.layout.specs.declared.job.Job.{Job}
use Rattle.book.specs.declared.fault.BookFault.TheVariants.{Overload}
use Rattle.book.specs.declared.tick.Entry.{Entry}
use Rattle.book.specs.declared.tick.Served.{Served}
use Rattle.book.specs.Book.{View, book_with_jobs}
use Rattle.book.specs.Calls.{early_fault}
use Rattle.book.specs.Offers.{UpTo, IsDoable}
use Rattle.book.specs.Settings.{settings_outcome}
use Rattle.life.specs.Events.{Call, offer, strike, tick, settings, blocks, bill, save, Answer, done, served}
use Rattle.life.specs.Events.{number, refused, Event, book_after}
use Rattle.life.specs.Tally.{Row, Tally, is_row_open, open_jobs, book_of_tally, backlog, last_row, tally_after}
use Rattle.life.specs.Life.{Life, beginning_outcome, tally_of}

-- the settings in force: what the question settings writes on the book, given room
abbrev pub written_settings : View → ℕ → ℕ
written_settings b = listed (settings_outcome b (replicate horizon 0)).list

-- a row has had no more than its work, and all of it once its deadline is reached, unless it was struck
pub record InTime (now : ℕ) (r : Row) : Type 0 where
  pub no_more : r.had ≤ r.job.work
  pub all_had : r.struck ≡ false → r.job.deadline ≤ now → r.had ≡ r.job.work

-- settings that do the open work in its windows, up to the top, and no other such settings draw less, under any draws
-- that keep the laws of power models
pub record Cheapest (t : Tally) (s : ℕ → ℕ) : Type 0 where
  pub up_to_top : UpTo t.top s
  pub does : Does horizon (backlog t) s
  pub least : (D : ℕ → ℕ) → Lawful 255 D → (q : ℕ → ℕ) → UpTo t.top q → Does horizon (backlog t) q
      → drawn horizon D s ≤ drawn horizon D q

-- what is promised at each moment
pub record Stands (t : Tally) (b : View) : Type 0 where
  pub rows : All (InTime t.now) t.rows
  pub settings : Cheapest t (written_settings b)

-- an entry of a tick: the last row with its ticket is open, and now is in its window
pub record GoesToOpen (t : Tally) (e : Entry) : Type 0 where
  pub row : Row
  pub last : last_row e.ticket t.rows ≡ Some row
  pub still_open : is_row_open row ≡ true
  pub begun : row.job.arrival ≤ t.now
  pub not_over : t.now < row.job.deadline

-- an accepted tick answers the first setting in force before it, its entries add up to that, and each goes to an open
-- row
pub record ServesTick (t : Tally) (b : View) (s : Served) (es : List Entry) : Type 0 where
  pub first : s.setting ≡ written_settings b 0
  pub whole : sum_by (λ e. e.units) es ≡ s.setting
  pub counted : length es ≡ s.count
  pub to_open : All (GoesToOpen t) es

-- some settings up to the top do the tally's open work and the offered work in their windows
abbrev pub CanDo : Tally → Job → Type 0
CanDo t j = IsDoable (book_with_jobs (j ∷ open_jobs t.rows) (book_of_tally t))

-- the refusal for overload
abbrev pub IsOverloadAnswer : Answer → Type 0
IsOverloadAnswer answer = (start : ℕ) × (end : ℕ) × (work : ℕ) × (answer ≡ refused (Overload start end work))

-- an offer that passes its checks of fields, of its ticket and of the places is refused for overload where no
-- settings can do the work, and accepted otherwise
abbrev pub Admits : Tally → Job → Answer → Type 0
Admits t j answer =
    early_fault (book_of_tally t) j ≡ None →
    ((answer ≡ done) × CanDo t j) ⊎ (IsOverloadAnswer answer × (CanDo t j → ⊥))

-- a tick is refused, or serves
abbrev pub TickAnswer : Tally → View → Answer → List Entry → Type 0
TickAnswer t b done es = ⊥
TickAnswer t b (served s) es = ServesTick t b s es
TickAnswer t b (number n) es = ⊥
TickAnswer t b (refused fault) es = Unit {0}

-- what is promised of an answer to a call
abbrev pub KeepsCall : Tally → View → Call → Answer → List Entry → Type 0
KeepsCall t b (offer j) answer es = Admits t j answer
KeepsCall t b (strike k) answer es = Unit {0}
KeepsCall t b (tick list) answer es = TickAnswer t b answer es
KeepsCall t b (settings list) answer es = Unit {0}
KeepsCall t b (blocks list) answer es = Unit {0}
KeepsCall t b (bill draws) answer es = Unit {0}
KeepsCall t b (save list) answer es = Unit {0}

-- the promises, from a moment on, where the tally and the book are these
abbrev pub KeepsFrom : Tally → View → List Event → Type 0
KeepsFrom t b [] = Stands t b
KeepsFrom t b (e ∷ es) =
    Stands t b × KeepsCall t b e.call e.answer e.entries × KeepsFrom (tally_after t e) (book_after b e.call) es

-- the promises of a life
abbrev pub Keeps : Life → Type 0
Keeps life = KeepsFrom (tally_of life.beginning) (beginning_outcome life.before life.beginning).book life.events
