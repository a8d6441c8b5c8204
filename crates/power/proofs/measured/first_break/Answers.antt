use Rattle.std.proofs.Common.{rules}
use Rattle.std.proofs.iter.runs.Sources.{ranges}
use Rattle.power.specs.BreakLaws.{found_is}
use Rattle.power.proofs.measured.first_break.Goals as goal

pub returns : goal.returns
returns c = found_is _ c.map.result (search (rules, ranges))
