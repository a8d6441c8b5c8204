use Rattle.std.proofs.Common.{◌≡◌, map, take}
use Rattle.schedule.specs.Certificate.{listed}
use Rattle.schedule.specs.Compressed.{seen}
use Rattle.planner.proofs.rounds.windows.Given as goal

abbrev pub invariant-loop-index : goal.invariant-loop-index
invariant-loop-index l = take l.index l.windows ≡ map (seen (listed l.times)) (take l.index l.demands)
