use Rattle.std.proofs.Common.{◌≡◌, ◌≤◌, length, take}
use Rattle.planner.specs.Blocks.{open_demands}
use Rattle.planner.proofs.rounds.Rounds.new.Given as goal

abbrev pub invariant-loop-demand : goal.invariant-loop-demand
invariant-loop-demand l = record {
  size : length l.open ≡ 64;
  behind : l.count ≤ l.demand-index;
  left : take l.count l.open ≡ open_demands (take l.demand-index l.demand-items);
}
