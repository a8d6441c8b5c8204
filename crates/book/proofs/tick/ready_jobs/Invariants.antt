use Rattle.std.proofs.Common.{◌≡◌, ◌≤◌, length, take}
use Rattle.std.specs.List.Sorted.{IsPermutation}
use Rattle.queue.specs.Slots.{slots_of, elements_of}
use Rattle.book.specs.Ready.{ready_jobs}
use Rattle.book.proofs.tick.ready_jobs.Given as goal

abbrev pub invariant-loop-index : goal.invariant-loop-index
invariant-loop-index l = record {
  size : length l.ready.slots.now ≡ 64;
  count : l.ready.len ≤ l.index;
  queued : IsPermutation (ready_jobs l.now 0 (take l.index l.jobs)) (elements_of (slots_of l.ready));
}
