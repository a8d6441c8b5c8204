-- Lists that a call is brought.
use Rattle.std.specs.Prelude.{ℕ, ◌++◌, if◌then◌else◌, List, length, drop, Some, None, Option, nat_lt}
use Rattle.book.specs.declared.fault.BookFault.{BookFault}
use Rattle.book.specs.declared.fault.BookFault.TheVariants.{Short}

-- the list with these elements in its first elements
abbrev pub list_with : {X : Type 0} → List X → List X → List X
list_with xs list = xs ++ drop (length xs) list

-- a list with fewer elements than are needed is refused
abbrev pub short_fault : {X : Type 0} → (needed : ℕ) → List X → Option BookFault
short_fault needed list = if nat_lt (length list) needed then Some (Short needed) else None
