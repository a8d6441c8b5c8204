use Rattle.std.proofs.Common.{◌≡◌, [], length, drop}
use Rattle.book.specs.Reading.{leading_jobs}
use Rattle.book.proofs.loading.leading_jobs.Given as goal

abbrev pub invariant-loop-bytes : goal.invariant-loop-bytes
invariant-loop-bytes l = record {
  count : length l.jobs ≡ l.bytes-index;
  rest : leading_jobs l.now [] l.records ≡ leading_jobs l.now l.jobs (drop l.bytes-index l.records);
}
