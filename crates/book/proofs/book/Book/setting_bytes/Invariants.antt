use Rattle.std.proofs.Common.{◌≡◌, length, take}
use Rattle.book.proofs.book.Book.setting_bytes.Given as goal

abbrev pub invariant-loop-tick : goal.invariant-loop-tick
invariant-loop-tick l = record { long : length l.bytes ≡ 256; copied : take l.tick l.bytes ≡ take l.tick l.setting-items }
