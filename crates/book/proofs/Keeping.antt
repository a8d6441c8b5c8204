-- Calls leave lawful books.
use Rattle.std.proofs.Common.{◌≡◌, ◌≢◌, ℕ, ◌≤◌, Bool, true, not, List, [], ◌∷◌, arith}
use Rattle.std.specs.List.{filter}
use Rattle.std.proofs.lemmas.List.Elements.{All-filter}
use Rattle.std.proofs.lemmas.List.Kept.{AllPairs-filter}
use Rattle.std.proofs.lemmas.List.Sums.{length-filter, count_by-le-length}
use Rattle.schedule.specs.Work.{work}
use Rattle.layout.specs.declared.job.Job.{Job}
use Rattle.book.specs.Jobs.{is_before, has_ticket, jobs_without}
use Rattle.book.specs.Demands.{demands}
use Rattle.book.specs.Book.{View, IsOpenAt, IsLawful, book_with_jobs}

-- fewer jobs have no more work in an interval
pub work-filter : (p : Job → Bool) (now a b : ℕ) (js : List Job) → work (demands now (filter p js)) a b ≤ work (demands now js) a b
work-filter p now a b [] = omega arith
work-filter p now a b (j ∷ js) = let rest = work-filter p now a b js in grind arith

-- a strike leaves a lawful book
pub lawful-jobs_without : (t : ℕ) (b : View) → IsLawful b → IsLawful (book_with_jobs (jobs_without t b.jobs) b)
lawful-jobs_without t b h = record {
  well_formed = record {
    in_time = h.well_formed.in_time;
    top_positive = h.well_formed.top_positive;
    top_within = h.well_formed.top_within;
    few = omega (arith, h.well_formed.few, length-filter (λ j. not (has_ticket t j)) b.jobs, count_by-le-length (λ j. not (has_ticket t j)) b.jobs);
    tickets_differ = AllPairs-filter (λ j k. j.ticket ≢ k.ticket) (λ j. not (has_ticket t j)) b.jobs h.well_formed.tickets_differ;
    in_order = AllPairs-filter (λ j k. is_before j k ≡ true) (λ j. not (has_ticket t j)) b.jobs h.well_formed.in_order;
    jobs_open = All-filter (λ j. not (has_ticket t j)) (IsOpenAt b.now) b.jobs h.well_formed.jobs_open;
  };
  none_overloaded = λ x y lt le. omega (arith, work-filter (λ j. not (has_ticket t j)) b.now x y b.jobs, h.none_overloaded x y lt le);
}
