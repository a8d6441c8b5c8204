-- The image of a book: 65 records of 24 bytes. What save writes and load accepts.
use Rattle.std.specs.Prelude.{ℕ, ◌+◌, ◌-◌, ◌*◌, ◌++◌, Bool, ◌&&◌, not, if◌then◌else◌, List, [], ◌∷◌, length}
use Rattle.std.specs.Prelude.{map, drop, replicate, take_while, position, Some, None, Option, ◌==◌, nat_le}
use Rattle.std.specs.Prelude.{nat_lt, slice_index, bytes_eq}
use Rattle.std.specs.List.{range_with_len, flat_map, list_all}
use Rattle.std.specs.Option.{option_map, option_or}
use Rattle.book.specs.declared.image.TheConstants.{IMAGE_LEN, RECORDS}
use Rattle.book.specs.declared.table.TheConstants.{PLACES}
use Rattle.layout.specs.declared.kind.TheConstants.{LABEL_LEN, RECORD_LEN}
use Rattle.planner.specs.declared.demands.TheConstants.{HORIZON}
use Rattle.layout.specs.BigEndian.{part}
use Rattle.layout.specs.Jobs.{job_in, record_bytes}
use Rattle.layout.specs.declared.job.TheConstants.{LAST_TICK}
use Rattle.layout.specs.declared.job.Job.{Job}
use Rattle.book.specs.declared.fault.BookFault.{BookFault}
use Rattle.book.specs.declared.fault.BookFault.TheVariants.{Image}
use Rattle.book.specs.Jobs.{is_before, is_ticket_open}
use Rattle.book.specs.Book.{View}
use Rattle.book.specs.Lists.{short_fault}
use Rattle.book.specs.Outcomes.{Outcome, accepted_outcome, outcome}
use Rattle.book.specs.Calls.{plain_outcome, first_overload_of}

-- the record of now and the top: now stands where a job has its arrival (bytes 4 to 9), and the top where it has its
-- work (16 and 17)
abbrev pub clock_record : (now top : ℕ) → List ℕ
clock_record now top =
    record_bytes 0x43 (record { ticket = 0; arrival = now; deadline = 0; work = top }) (replicate LABEL_LEN 0)

-- the record of an open job
abbrev pub job_record : Job → List ℕ
job_record j = record_bytes 0x4a j (replicate LABEL_LEN 0)

-- a record that stands for no job
abbrev pub blank_record : List ℕ
blank_record = replicate RECORD_LEN 0

-- the records of a book: its now and top, then the open jobs in the order of serving, and blank ones for the rest
abbrev pub image_records : View → List (List ℕ)
image_records b = clock_record b.now b.top ∷ (map job_record b.jobs ++ replicate (PLACES - length b.jobs) blank_record)

-- their bytes
abbrev pub image : View → List ℕ
image b = flat_map (λ r. r) (image_records b)

-- save writes the image into the first elements of the list
abbrev pub save_outcome : View → List ℕ → Outcome (Unit {0}) BookFault (List ℕ)
save_outcome b list =
    outcome (short_fault IMAGE_LEN list) b list (accepted_outcome tt b (image b ++ drop IMAGE_LEN list))

-- the record k of a list
abbrev pub record_in : List ℕ → ℕ → List ℕ
record_in list k = part (RECORD_LEN * k) RECORD_LEN list

-- the now and the top that a record says: they stand where a job has its arrival and its work
abbrev pub now_in : List ℕ → ℕ
now_in r = (job_in r).arrival

abbrev pub top_in : List ℕ → ℕ
top_in r = (job_in r).work

-- the records after the first
abbrev pub later_records : List ℕ → List (List ℕ)
later_records list = map (record_in list) (range_with_len 1 PLACES)

-- whether a record stands for a job
abbrev pub is_job_record : List ℕ → Bool
is_job_record r = slice_index r 0 == 0x4a

-- the book that an image says: its jobs stand in the records up to the first of another kind
abbrev pub book_in : List ℕ → View
book_in list = record {
  now = now_in (record_in list 0);
  top = top_in (record_in list 0);
  jobs = map job_in (take_while is_job_record (later_records list));
}

-- whether a job can be open at now (`IsOpenAt`), as a test
abbrev pub can_be_open : ℕ → Job → Bool
can_be_open now j =
    nat_lt 0 j.ticket && (nat_lt 0 j.work
    && (nat_lt now j.deadline && (nat_le j.deadline (now + HORIZON) && (nat_le j.deadline LAST_TICK
    && (nat_lt j.arrival j.deadline && nat_le j.deadline (j.arrival + HORIZON))))))

-- whether a record is that of some now and top
abbrev pub is_clock : List ℕ → Bool
is_clock r = bytes_eq r (clock_record (now_in r) (top_in r)) && (nat_le 1 (top_in r) && nat_le (top_in r) 255)

-- whether a record is that of a next job after those before: of a job that is served after them and can be open
-- besides them
abbrev pub is_next_job : (now : ℕ) (before : List Job) → List ℕ → Bool
is_next_job now before r =
    let j = job_in r in
    bytes_eq r (job_record j) && (can_be_open now j
    && (list_all (λ k. is_before k j) before && not (is_ticket_open j.ticket before)))

-- the number of the first record that is not blank, of the records from number k on
abbrev pub first_not_blank : (k : ℕ) → List (List ℕ) → Option ℕ
first_not_blank k rs = option_map (λ i. k + i) (position (λ r. not (bytes_eq r blank_record)) rs)

-- the number of the first record that is wrong, of the records from number k on, which stand after those of the jobs
-- before: as long as they are next jobs they go to the jobs before, and the rest has to be blank
abbrev pub first_wrong_later : (now : ℕ) (before : List Job) (k : ℕ) → List (List ℕ) → Option ℕ
first_wrong_later now before k [] = None
first_wrong_later now before k (r ∷ rs) =
    if is_next_job now before r
    then first_wrong_later now (before ++ (job_in r ∷ [])) (k + 1) rs
    else first_not_blank k (r ∷ rs)

-- the number of the first record of a list that is wrong
abbrev pub first_wrong : List ℕ → Option ℕ
first_wrong list =
    let r = record_in list 0 in
    if is_clock r then first_wrong_later (now_in r) [] 1 (later_records list) else Some 0

-- an overload is told as the number after the last record
abbrev pub overload_record : View → Option ℕ
overload_record b = option_map (λ ab. RECORDS) (first_overload_of b)

-- why an image is not loaded
abbrev pub load_fault : List ℕ → Option BookFault
load_fault list =
    option_or (short_fault IMAGE_LEN list)
    (option_map Image (option_or (first_wrong list) (overload_record (book_in list))))

-- load makes the book that of an image
abbrev pub load_outcome : View → List ℕ → Outcome (Unit {0}) BookFault (Unit {0})
load_outcome b list = plain_outcome (load_fault list) b (book_in list)
