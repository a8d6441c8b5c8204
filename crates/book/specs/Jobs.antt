-- Jobs and lists of open jobs.
use Rattle.std.specs.Prelude.{ℕ, Bool, ◌&&◌, ◌||◌, not, List, ◌==◌, nat_lt}
use Rattle.std.specs.List.{list_any, filter, insert, position_or_len}
use Rattle.layout.specs.declared.job.Job.{Job}

-- whether the first of two jobs is served before the second: it has the earlier deadline, or the same and the lesser
-- ticket
abbrev pub is_before : Job → Job → Bool
is_before j k = nat_lt j.deadline k.deadline || (j.deadline == k.deadline && nat_lt j.ticket k.ticket)

-- whether a job has the ticket
abbrev pub has_ticket : ℕ → Job → Bool
has_ticket t j = j.ticket == t

-- whether one of the jobs has it
abbrev pub is_ticket_open : ℕ → List Job → Bool
is_ticket_open t jobs = list_any (has_ticket t) jobs

-- the jobs with one more, which goes right before the first that is served after it
abbrev pub jobs_with : Job → List Job → List Job
jobs_with j jobs = insert jobs (position_or_len (is_before j) jobs) j

-- the jobs without those of the ticket
abbrev pub jobs_without : ℕ → List Job → List Job
jobs_without t jobs = filter (λ j. not (has_ticket t j)) jobs
