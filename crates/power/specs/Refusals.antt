-- The refusals of the power models: the number and the values of each fault.
use Rattle.std.specs.Prelude.{ℕ}
use Rattle.refusal.specs.declared.Layer.TheVariants.{Power}
use Rattle.refusal.specs.declared.Refusal.{Refusal}
use Rattle.refusal.specs.Refusals.{refusal_with}
use Rattle.power.specs.declared.fault.CubeField.{CubeField}
use Rattle.power.specs.declared.fault.CubeField.TheVariants.{FixedDraw}
use Rattle.power.specs.declared.fault.PowerFault.{PowerFault}
use Rattle.power.specs.declared.fault.PowerFault.TheVariants.{Field, Short, Broken}

abbrev pub field_number : CubeField → ℕ
field_number FixedDraw = 7

abbrev pub power_refusal : PowerFault → Refusal
power_refusal (Field f) = refusal_with Power 5 (field_number f)
power_refusal (Short needed) = refusal_with Power 10 needed
power_refusal (Broken setting) = refusal_with Power 12 setting
