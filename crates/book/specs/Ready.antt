-- The ready jobs of a table: those whose windows have begun.
use Rattle.std.specs.Prelude.{ℕ, ◌+◌, ◌++◌, if◌then◌else◌, List, [], ◌∷◌, nat_le}
use Rattle.queue.specs.declared.ready.ReadyJob.{ReadyJob}
use Rattle.layout.specs.declared.job.Job.{Job}

-- the job at an index, as the queue holds it
abbrev pub ready_job : ℕ → Job → ReadyJob
ready_job index j = record { deadline = j.deadline; ticket = j.ticket; index = index }

-- the jobs whose windows have begun, the first of the jobs at the index
abbrev pub ready_jobs : ℕ → ℕ → List Job → List ReadyJob
ready_jobs now index [] = []
ready_jobs now index (j ∷ js) =
    (if nat_le j.arrival now then ready_job index j ∷ [] else []) ++ ready_jobs now (index + 1) js
