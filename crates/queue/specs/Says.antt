-- What a put, a take, the least and a replacement of it answer, and what is held afterwards.
use Rattle.std.specs.Prelude.{◌≡◌, ℕ, ◌+◌, ◌<◌, Bool, false, if◌then◌else◌, List, [], ◌∷◌, length, Some, None, Ok, Err}
use Rattle.std.specs.Prelude.{MatchBool, Option, Result, nat_lt, slice_index_or}
use Rattle.std.specs.List.{best_of, AllByRecursion}
use Rattle.std.specs.List.Sorted.{IsPermutation}
use Rattle.queue.specs.declared.fault.QueueFault.{QueueFault}
use Rattle.queue.specs.declared.fault.QueueFault.TheVariants.{Full}
use Rattle.queue.specs.Slots.{Slots, elements_of}

-- x is held besides what was held
pub record Added {X : Type 0} (x : X) (q r : Slots X) : Type 0 where
  pub slots : length r.slots ≡ length q.slots
  pub count : r.count ≡ q.count + 1
  pub holds : IsPermutation (x ∷ elements_of q) (elements_of r)

-- x, which no element was before, is held no more
pub record Removed {X : Type 0} (before : X → X → Bool) (x : X) (q r : Slots X) : Type 0 where
  pub slots : length r.slots ≡ length q.slots
  pub count : q.count ≡ r.count + 1
  pub holds : IsPermutation (elements_of q) (x ∷ elements_of r)
  pub least : AllByRecursion (λ y. before y x ≡ false) (elements_of q)

-- whether a slot is free
abbrev pub has_room : {X : Type 0} → Slots X → Bool
has_room q = nat_lt q.count (length q.slots)

-- a put adds the element where a slot is free, and leaves all as it was otherwise
abbrev pub PutLeaves : {X : Type 0} → X → Slots X → Slots X → Type 0
PutLeaves x q r = MatchBool (has_room q) (Added x q r) (r ≡ q)

-- what a put answers: an element that finds no free slot is given back
abbrev pub try_put_answer : {X : Type 0} → X → Slots X → Result (Unit {0}) X
try_put_answer x q = if has_room q then Ok tt else Err x

-- or it is refused with the slots there are, and one
abbrev pub put_answer : {X : Type 0} → Slots X → Result (Unit {0}) QueueFault
put_answer q = if has_room q then Ok tt else Err (Full (length q.slots + 1))

-- no two of the elements have the same rank
abbrev pub NoTies : {X : Type 0} → (X → X → Bool) → List X → Type 0
NoTies {X} same xs =
    (i j : ℕ) (d : X) → i < j → j < length xs → same (slice_index_or xs i d) (slice_index_or xs j d) ≡ false

-- the first of the elements that none is before
abbrev pub least_of : {X : Type 0} → (X → X → Bool) → List X → Option X
least_of before [] = None
least_of before (x ∷ xs) = Some (best_of before x xs)

-- a take removes an element, and leaves all as it was where none is held
abbrev pub TakeLeaves : {X : Type 0} → (X → X → Bool) → Slots X → Slots X → Option X → Type 0
TakeLeaves before q r None = (q.count ≡ 0) × (r ≡ q)
TakeLeaves before q r (Some x) = Removed before x q r

-- what a take answers: one of the elements that none is before, and just the least where no two have the same rank
pub record TakeSays {X : Type 0} (before same : X → X → Bool) (q r : Slots X) (answer : Option X) : Type 0 where
  pub leaves : TakeLeaves before q r answer
  pub pinned : NoTies same (elements_of q) → answer ≡ least_of before (elements_of q)

-- the least is what a take would answer
abbrev pub LeastSays : {X : Type 0} → (X → X → Bool) → (X → X → Bool) → Slots X → Option X → Type 0
LeastSays {X} before same q answer = (r : Slots X) × TakeSays before same q r answer

-- x is held besides what a take left, where it removed an element
abbrev pub Refilled : {X : Type 0} → X → Option X → Slots X → Slots X → Type 0
Refilled x None q r = r ≡ q
Refilled x (Some y) q r = Added x q r

-- what a replacement of the least by x answers: what a take does, with x put into what that leaves
pub record ReplaceSays {X : Type 0} (before same : X → X → Bool) (x : X) (q r : Slots X) (answer : Option X)
    : Type 0 where
  pub left : Slots X
  pub taken : TakeSays before same q left answer
  pub refilled : Refilled x answer left r
