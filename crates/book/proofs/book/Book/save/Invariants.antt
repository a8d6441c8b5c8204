use Rattle.std.proofs.Common.{◌≡◌, ℕ, ◌+◌, ◌<◌}
use Rattle.book.specs.Loads.{IsSizedAt}
use Rattle.book.proofs.Images.ImageWritten.{begun}
use Rattle.book.proofs.book.Book.save.Given as goal

abbrev pub invariant-loop-index : goal.invariant-loop-index
invariant-loop-index l = record {
  written : l.list ≡ begun (1 + l.index) l.self l.fn.list;
  sized : (k : ℕ) → k < l.index → IsSizedAt k l.jobs;
}
