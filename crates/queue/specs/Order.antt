-- The order of a queue's elements.
use Rattle.std.specs.Prelude.{◌≡◌, ◌+◌, Bool, if◌then◌else◌}

-- just one of three tests passes
abbrev pub JustOne : Bool → Bool → Bool → Type 0
JustOne a b c = (if a then 1 else 0) + ((if b then 1 else 0) + (if c then 1 else 0)) ≡ 1
