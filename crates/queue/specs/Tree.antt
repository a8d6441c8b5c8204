-- The binary tree that lies in the elements that are held: the children of index p are 2 p + 1 and 2 p + 2.
use Rattle.std.specs.Prelude.{◌≡◌, ℕ, ◌+◌, ◌*◌, ◌/◌, ◌<◌, ◌≤◌, Bool, false, List, length, slice_index_or}

-- no element is before the one above it: above index k + 1 stands index k / 2
abbrev pub IsHeap : {X : Type 0} → (X → X → Bool) → List X → Type 0
IsHeap {X} before xs =
    (d : X) (k : ℕ) → k + 1 < length xs → before (slice_index_or xs (k + 1) d) (slice_index_or xs (k / 2) d) ≡ false

-- the index k is a child of the index p
abbrev pub IsChild : ℕ → ℕ → Type 0
IsChild p k = (2 * p < k) × (k ≤ 2 * p + 2)
