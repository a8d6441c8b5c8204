-- The refusals of the reader and the writer: the number and the values of each fault.
use Rattle.std.specs.Prelude.{ℕ}
use Rattle.refusal.specs.declared.Layer.TheVariants.{Record}
use Rattle.refusal.specs.declared.Refusal.{Refusal}
use Rattle.refusal.specs.Refusals.{refusal_with}
use Rattle.layout.specs.declared.fault.ReadFault.{ReadFault}
use Rattle.layout.specs.declared.fault.ReadFault.TheVariants.{Cut, UnknownKind, Forbidden}
use Rattle.layout.specs.declared.fault.WriteFault.{WriteFault}
use Rattle.layout.specs.declared.fault.WriteFault.TheVariants.{Field, Short}
use Rattle.layout.specs.declared.fault.WrittenField.{WrittenField}
use Rattle.layout.specs.declared.fault.WrittenField.TheVariants.{Arrival, Deadline, Label}

abbrev pub read_refusal : ReadFault → Refusal
read_refusal (Cut offset) = refusal_with Record 1 offset
read_refusal (UnknownKind offset) = refusal_with Record 2 offset
read_refusal (Forbidden offset) = refusal_with Record 3 offset

abbrev pub field_number : WrittenField → ℕ
field_number Arrival = 1
field_number Deadline = 2
field_number Label = 3

abbrev pub write_refusal : WriteFault → Refusal
write_refusal (Field f) = refusal_with Record 4 (field_number f)
write_refusal (Short needed) = refusal_with Record 10 needed
