use Rattle.std.proofs.Common.{rules}
use Rattle.power.specs.CubeLaws.{cube_in_table, cubes_lawful}
use Rattle.power.proofs.cubes.cubed.Goals as goal

pub returns : goal.returns
returns c = record { is = cube_in_table _ c.cubes.ensures.rule c.args.setting (search rules); laws = cubes_lawful }
