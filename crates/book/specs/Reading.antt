-- How an image is read, step by step.
use Rattle.std.specs.Prelude.{ℕ, ◌++◌, if◌then◌else◌, List, [], ◌∷◌}
use Rattle.layout.specs.declared.job.Job.{Job}
use Rattle.layout.specs.Jobs.{job_in}
use Rattle.book.specs.Images.{is_next_job}

-- the jobs before and those of the records after them, as long as these are next jobs
abbrev pub leading_jobs : (now : ℕ) (before : List Job) → List (List ℕ) → List Job
leading_jobs now before [] = before
leading_jobs now before (r ∷ rs) =
    if is_next_job now before r then leading_jobs now (before ++ (job_in r ∷ [])) rs else before
