-- What jobs demand, seen from now.
use Rattle.std.specs.Prelude.{ℕ, ◌-◌, List, map}
use Rattle.schedule.specs.Demands.{Demand}
use Rattle.layout.specs.declared.job.Job.{Job}

-- a job seen from now: of its window only the ticks from now on count
abbrev pub demand : ℕ → Job → Demand
demand now j = record { from = j.arrival - now; to = j.deadline - now; units = j.work }

abbrev pub demands : ℕ → List Job → List Demand
demands now jobs = map (demand now) jobs
