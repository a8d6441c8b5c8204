use Rattle.std.specs.Prelude.{ℕ, List, ◌∷◌, ◌++◌, decimal}
use Rattle.refusal.specs.declared.Values.{Values}
use Rattle.refusal.specs.declared.Values.TheVariants.{One, Three}
use Rattle.refusal.specs.declared.Refusal.{Refusal}

-- a space, then the number
abbrev pub spaced_number : ℕ → List ℕ
spaced_number n = 32 ∷ decimal n

abbrev pub values_text : Values → List ℕ
values_text (One a) = spaced_number a
values_text (Three a b c) = spaced_number a ++ (spaced_number b ++ spaced_number c)

-- the number and the values, one space between
abbrev pub refusal_text : Refusal → List ℕ
refusal_text r = decimal r.number ++ values_text r.values
