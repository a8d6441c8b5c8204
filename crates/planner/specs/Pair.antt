-- Pairs of compressed times, as rounds search for them.
use Rattle.std.specs.Prelude.{◌≡◌, List, [], ◌∷◌, Option, None, Some}
use Rattle.schedule.specs.Demands.{Demand}
use Rattle.schedule.specs.BestPair.{Pair as Times, pair_work, best_pair}
use Rattle.planner.specs.declared.pair.Pair.{Pair}

-- the compressed times of a pair
abbrev pub times_of : Pair → Times
times_of p = record { low = p.low; high = p.high }

-- its work is that of the windows that lie inside
abbrev pub IsCounted : List Demand → Pair → Type 0
IsCounted ws p = p.work ≡ pair_work ws (times_of p)

-- the best pair from a start to an end of windows, where there are any
abbrev pub best_pair_of : List Demand → Option Times
best_pair_of [] = None
best_pair_of (w ∷ ws) = Some (best_pair w (w ∷ ws))
