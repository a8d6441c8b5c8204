-- What the call bill answers.
use Rattle.std.specs.Prelude.{ℕ}
use Rattle.schedule.specs.Draws.{drawn}
use Rattle.schedule.specs.InForce.{horizon}
use Rattle.book.specs.Book.{View}
use Rattle.book.specs.Settings.{settings_of}

-- what the settings in force draw, where D s is the draw of the setting s
abbrev pub bill_of : (ℕ → ℕ) → View → ℕ
bill_of D b = drawn horizon D (settings_of b)
