-- The table of cubes, and when a cube model is refused.
use Rattle.std.specs.Prelude.{ℕ, if◌then◌else◌, List, map, Ok, Err, Result, nat_lt}
use Rattle.std.specs.List.{range_with_len}
use Rattle.power.specs.declared.model.TheConstants.{SETTING_VALUES}
use Rattle.power.specs.Draws.{cube}
use Rattle.power.specs.declared.fault.CubeField.TheVariants.{FixedDraw}
use Rattle.power.specs.declared.fault.PowerFault.{PowerFault}
use Rattle.power.specs.declared.fault.PowerFault.TheVariants.{Field}

-- the cubes of the settings 0 to 255, in their order
abbrev pub cube_table : List ℕ
cube_table = map cube (range_with_len 0 SETTING_VALUES)

-- the fixed draw and the factor of a new model, or its refusal
abbrev pub new_cube : (fixed factor : ℕ) → Result (ℕ × ℕ) PowerFault
new_cube fixed factor = if nat_lt 66000000 fixed then Err (Field FixedDraw) else Ok (fixed, factor)
