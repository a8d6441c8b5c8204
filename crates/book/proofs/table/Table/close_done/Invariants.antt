use Rattle.std.proofs.Common.{◌≡◌, ◌≤◌, take, drop}
use Rattle.std.specs.List.{filter}
use Rattle.book.specs.Ticks.{has_work}
use Rattle.book.proofs.table.Table.close_done.Given as goal

abbrev pub invariant-loop-index : goal.invariant-loop-index
invariant-loop-index l = record {
  same : l.self-inside.count ≡ l.initial.self-inside.count;
  fits : l.self-inside.count ≤ 64;
  behind : l.count ≤ l.index;
  kept : take l.count l.self-inside.places ≡ filter has_work (take l.index l.initial.self-inside.places);
  others : drop l.index l.self-inside.places ≡ drop l.index l.initial.self-inside.places;
}
