-- The bytes of a record with a job, and the job in them.
use Rattle.std.proofs.Common.{◌≡◌, ℕ, ◌^◌, ◌<◌, List, ◌∷◌, ◌++◌, set, replicate, ap, ◌∙◌, append-nil}
use borrow.Rule.Slice.PartMut.{put_mid}
use Rattle.layout.specs.declared.job.Job.{Job}
use Rattle.layout.specs.BigEndian.{bytes}
use Rattle.layout.specs.Jobs.{job_in, record_bytes, IsSized}
use Rattle.layout.proofs.BigEndian.{number-bytes}

-- fields that are put into 24 zeros, one after the other
abbrev filled_bytes : ℕ → List ℕ → List ℕ → List ℕ → List ℕ → List ℕ → List ℕ
filled_bytes first t a d w l = put_mid 18 6 (put_mid 16 2 (put_mid 10 6 (put_mid 4 6 (put_mid 2 2 (set (replicate 24 0) 0 first) t) a) d) w) l

pub filled_bytes_lem : (first : ℕ) (j : Job) (l ts rs ds ws ls : List ℕ) → ts ≡ bytes 2 j.ticket → rs ≡ bytes 6 j.arrival → ds ≡ bytes 6 j.deadline → ws ≡ bytes 2 j.work → ls ≡ l
    → filled_bytes first ts rs ds ws ls ≡ record_bytes first j l
filled_bytes_lem first j l ts rs ds ws ls et ea ed ew el =
    (λ i. filled_bytes first (et i) (ea i) (ed i) (ew i) (el i))
    ∙ ap (λ (x : List ℕ). first ∷ 0 ∷ (bytes 2 j.ticket ++ (bytes 6 j.arrival ++ (bytes 6 j.deadline ++ (bytes 2 j.work ++ x))))) (append-nil l)

-- the bytes with a job hold it
pub job_in-record_bytes : (first : ℕ) (j : Job) (last : List ℕ) → IsSized j → j.arrival < 2 ^ 48 → j.deadline < 2 ^ 48 → job_in (record_bytes first j last) ≡ j
job_in-record_bytes first j last s a d = λ i. record {
  ticket = number-bytes 2 j.ticket s.ticket i;
  arrival = number-bytes 6 j.arrival a i;
  deadline = number-bytes 6 j.deadline d i;
  work = number-bytes 2 j.work s.work i;
}
