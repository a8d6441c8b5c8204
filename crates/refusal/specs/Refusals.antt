-- What a refusal tells.
use Rattle.std.specs.Prelude.{ℕ}
use Rattle.refusal.specs.declared.Layer.{Layer}
use Rattle.refusal.specs.declared.Values.TheVariants.{One}
use Rattle.refusal.specs.declared.Refusal.{Refusal}

-- a refusal of the layer with its number and one value
abbrev pub refusal_with : Layer → (number value : ℕ) → Refusal
refusal_with layer n value = record { layer = layer; number = n; values = One value }
