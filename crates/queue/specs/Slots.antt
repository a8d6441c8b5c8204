-- The slots of a queue, of which the first `count` are filled.
use Rattle.std.specs.Prelude.{ℕ, List, take}
use Rattle.queue.specs.declared.heap.Queue.{Queue}
use Rattle.queue.specs.declared.order.Rank.{Ghosts}

pub record Slots (X : Type 0) : Type 0 where
  pub slots : List X
  pub count : ℕ

-- the elements that are held
abbrev pub elements_of : {X : Type 0} → Slots X → List X
elements_of q = take q.count q.slots

-- the slots of a queue of the code
abbrev pub slots_of : {X : Type 0} {R : Ghosts X} → Queue X R → Slots X
slots_of q = record { slots = q.slots.now; count = q.len }
