use Rattle.std.proofs.Common.{◌-◌, ◌<◌, ◌∷◌, length, set, take}
use Rattle.std.specs.List.Sorted.{IsPermutation}
use Rattle.queue.proofs.Sifting.{OrderedButAbove}
use Rattle.queue.proofs.heap.sift_up.Given as goal

abbrev pub invariant-loop-index : goal.invariant-loop-index
invariant-loop-index g l = record {
  within : l.index < length l.heap;
  holds : IsPermutation (l.moving ∷ take (length l.initial.heap - 1) l.initial.heap) (set l.heap l.index l.moving);
  ordered : OrderedButAbove g.T.Rank.before (set l.heap l.index l.moving) l.index;
}

abbrev pub decreases-loop-index : goal.decreases-loop-index
decreases-loop-index g l = l.index
