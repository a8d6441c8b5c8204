-- What a measured model answers to a list of draws, and the numbers that it holds then.
use Rattle.std.specs.Prelude.{◌≡◌, ℕ, ◌-◌, ◌≤◌, if◌then◌else◌, List, length, take, Some, None, Ok, Err, Option}
use Rattle.std.specs.Prelude.{Result, is_ok, nat_lt}
use Rattle.power.specs.declared.model.TheConstants.{SETTING_VALUES}
use Rattle.power.specs.declared.fault.PowerFault.{PowerFault}
use Rattle.power.specs.declared.fault.PowerFault.TheVariants.{Field, Short, Broken}
use Rattle.power.specs.Laws.{Lawful}
use Rattle.power.specs.Draws.{draw_at}
use Rattle.power.specs.Breaks.{first_break}

-- the draws that a list brings: its first 256 numbers
abbrev pub list_draw : List ℕ → ℕ → ℕ
list_draw list = draw_at (take SETTING_VALUES list)

-- what the least setting at which a law breaks, if there is one, makes of a long enough list
abbrev pub break_answer : Option ℕ → Result (Unit {0}) PowerFault
break_answer None = Ok tt
break_answer (Some s) = Err (Broken s)

-- the answer: the length comes before the laws
abbrev pub load_answer : List ℕ → Result (Unit {0}) PowerFault
load_answer list =
    if nat_lt (length list) SETTING_VALUES then Err (Short SETTING_VALUES) else
    break_answer (first_break (list_draw list))

-- the numbers after a load: the first 256 of the list, or the old ones where it is refused
abbrev pub numbers_after : (old list : List ℕ) → List ℕ
numbers_after old list = if is_ok (load_answer list) then take SETTING_VALUES list else old

-- a list that can be loaded has 256 numbers, and the first 256 keep both laws
abbrev pub IsLoadable : List ℕ → Type 0
IsLoadable list = (SETTING_VALUES ≤ length list) × Lawful 255 (list_draw list)

-- a list is accepted just where it can be loaded
abbrev pub Accepts : List ℕ → Result (Unit {0}) PowerFault → Type 0
Accepts list (Ok u) = IsLoadable list
Accepts list (Err e) = IsLoadable list → ⊥

-- the setting named is the least at which a law breaks: both are kept up to the one before it, and not up to it
abbrev pub NamesLeast : (ℕ → ℕ) → Result (Unit {0}) PowerFault → Type 0
NamesLeast D (Ok u) = Unit {0}
NamesLeast D (Err (Field f)) = ⊥
NamesLeast D (Err (Short needed)) = needed ≡ SETTING_VALUES
NamesLeast D (Err (Broken s)) = (1 ≤ s) × (s ≤ 255) × Lawful (s - 1) D × (Lawful s D → ⊥)
