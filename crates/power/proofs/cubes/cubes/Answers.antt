use Rattle.std.proofs.Common.{◌≡◌, refl}
use Rattle.power.specs.declared.cubes.TheConstants.{CUBES}
use Rattle.power.specs.Cubes.{cube_table}
use Rattle.power.specs.CubeLaws.{table_lawful}
use Rattle.power.proofs.cubes.cubes.Goals as goal

-- one test over the whole table
rule : CUBES ≡ cube_table
rule = refl

pub returns : goal.returns
returns c = record { rule = rule; laws = table_lawful CUBES rule }
