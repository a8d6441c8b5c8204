-- What a record says, as plain values.
use Rattle.std.specs.Prelude.{ℕ, List, []}
use Rattle.layout.specs.declared.job.Job.{Job}

pub data Content : Type 0 where
  offer : (job : Job) (label : List ℕ) → Content
  strike : (ticket : ℕ) → Content
  tick : Content

-- its label: a strike and a tick have a blank one
abbrev pub label_of : Content → List ℕ
label_of (offer j l) = l
label_of (strike t) = []
label_of tick = []
