-- Labels.
use Rattle.std.specs.Prelude.{ℕ, ◌-◌, Bool, ◌&&◌, List, [], ◌∷◌, length, take, ◌==◌, nat_eq}
use Rattle.std.specs.List.{suffix_len, list_all}
use Rattle.layout.specs.declared.kind.TheConstants.{LABEL_LEN}
use Rattle.layout.specs.Layout.{is_printable}

-- the length without the last spaces
abbrev pub trimmed_length : List ℕ → ℕ
trimmed_length l = length l - suffix_len (nat_eq 0x20) l

-- without the last spaces
abbrev pub trimmed_label : List ℕ → List ℕ
trimmed_label l = take (trimmed_length l) l

-- the label itself, or the default text where it has no bytes
abbrev pub shown_label : List ℕ → List ℕ → List ℕ
shown_label [] default = default
shown_label (b ∷ bs) default = b ∷ bs

abbrev pub is_all_printable : List ℕ → Bool
is_all_printable l = list_all is_printable l

-- six bytes that a label may hold
abbrev pub is_label : List ℕ → Bool
is_label l = length l == LABEL_LEN && is_all_printable l
