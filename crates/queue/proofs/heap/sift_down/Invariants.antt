use Rattle.std.proofs.Common.{◌-◌, ◌<◌, ◌∷◌, drop, length, set}
use Rattle.std.specs.List.Sorted.{IsPermutation}
use Rattle.queue.proofs.Sifting.{OrderedButBelow}
use Rattle.queue.proofs.heap.sift_down.Given as goal

abbrev pub invariant-loop-index : goal.invariant-loop-index
invariant-loop-index g l = record {
  within : l.index < length l.heap;
  holds : IsPermutation (l.moving ∷ drop 1 l.initial.heap) (set l.heap l.index l.moving);
  ordered : OrderedButBelow g.T.Rank.before (set l.heap l.index l.moving) l.index;
}

abbrev pub decreases-loop-index : goal.decreases-loop-index
decreases-loop-index g l = length l.heap - l.index
