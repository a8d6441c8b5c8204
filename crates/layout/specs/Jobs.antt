-- Jobs, and how they stand in the bytes of a record.
use Rattle.std.specs.Prelude.{ℕ, ◌-◌, ◌^◌, ◌<◌, List, ◌∷◌, ◌++◌}
use Rattle.layout.specs.declared.job.Job.{Job}
use Rattle.layout.specs.BigEndian.{number, bytes, part}

-- a job whose ticket and work have the sizes of the code's fields
pub record IsSized (j : Job) : Type 0 where
  pub ticket : j.ticket < 2 ^ 16
  pub work : j.work < 2 ^ 16

-- a job with so many units less left
abbrev pub job_after : Job → ℕ → Job
job_after j u = record { ticket = j.ticket; arrival = j.arrival; deadline = j.deadline; work = j.work - u }

-- the job in 24 bytes
abbrev pub job_in : List ℕ → Job
job_in b = record {
  ticket = number (part 2 2 b);
  arrival = number (part 4 6 b);
  deadline = number (part 10 6 b);
  work = number (part 16 2 b);
}

-- the 24 bytes with a job: byte 0, a zero, the four numbers, and the last six bytes
abbrev pub record_bytes : (first : ℕ) → Job → (last : List ℕ) → List ℕ
record_bytes first j last =
    first ∷ 0 ∷ (bytes 2 j.ticket ++ (bytes 6 j.arrival ++ (bytes 6 j.deadline ++ (bytes 2 j.work ++ last))))
