-- What the call settings answers, and what its list holds afterwards.
use Rattle.std.specs.Prelude.{ℕ, ◌++◌, List, map, drop}
use Rattle.std.specs.List.{range_with_len}
use Rattle.planner.specs.declared.demands.TheConstants.{HORIZON}
use Rattle.schedule.specs.InForce.{horizon, settings_in_force}
use Rattle.book.specs.declared.fault.BookFault.{BookFault}
use Rattle.book.specs.Demands.{demands}
use Rattle.book.specs.Book.{View}
use Rattle.book.specs.Lists.{short_fault}
use Rattle.book.specs.Outcomes.{Outcome, accepted_outcome, outcome}

-- the settings in force of a book
abbrev pub settings_of : View → ℕ → ℕ
settings_of b = settings_in_force (demands b.now b.jobs)

-- the list with the settings in force in its first elements
abbrev pub list_with_settings : View → List ℕ → List ℕ
list_with_settings b list = map (settings_of b) (range_with_len 0 horizon) ++ drop horizon list

-- settings writes the settings in force into the first elements of the list
abbrev pub settings_outcome : View → List ℕ → Outcome (Unit {0}) BookFault (List ℕ)
settings_outcome b list = outcome (short_fault HORIZON list) b list (accepted_outcome tt b (list_with_settings b list))
