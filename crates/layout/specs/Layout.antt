-- The layout of 24 bytes: byte 0 the kind, byte 1 zero, then ticket (2-3), arrival (4-9), deadline (10-15),
-- work (16-17) and label (18-23).
use Rattle.std.specs.Prelude.{ℕ, ◌+◌, Bool, if◌then◌else◌, ◌&&◌, ◌||◌, ◌==◌, nat_le, nat_lt}
use Rattle.std.specs.Prelude.{List, [], ◌∷◌, Some, None, Option}
use Rattle.layout.specs.declared.kind.TheConstants.{LABEL, LABEL_LEN}
use Rattle.layout.specs.declared.kind.Kind.{Kind}
use Rattle.layout.specs.declared.kind.Kind.TheVariants.{Offer, Strike, Tick}
use Rattle.layout.specs.BigEndian.{part}

-- the label in 24 bytes
abbrev pub label_in : List ℕ → List ℕ
label_in b = part LABEL LABEL_LEN b

abbrev pub kind_byte : Kind → ℕ
kind_byte Offer = 0x4f
kind_byte Strike = 0x53
kind_byte Tick = 0x54

abbrev pub kind_of : ℕ → Option Kind
kind_of b =
    if b == 0x4f then Some Offer else
    if b == 0x53 then Some Strike else
    if b == 0x54 then Some Tick else None

-- a label holds bytes from 20 to 7E, hexadecimal
abbrev pub is_printable : ℕ → Bool
is_printable b = nat_le 0x20 b && nat_le b 0x7e

-- an offer has all numbers, a strike the ticket alone, a tick none: where the numbers of a kind end
abbrev pub numbers_end : Kind → ℕ
numbers_end Offer = LABEL
numbers_end Strike = 4
numbers_end Tick = 2

-- an offer has a label of its own, the others have spaces
abbrev pub is_label_byte : Kind → ℕ → Bool
is_label_byte Offer b = is_printable b
is_label_byte Strike b = b == 0x20
is_label_byte Tick b = b == 0x20

-- whether the byte i of a record of the kind, after byte 0, may be b:
-- it may be any in the numbers, and is zero elsewhere before the label
abbrev pub is_allowed : Kind → (i b : ℕ) → Bool
is_allowed k i b =
    if nat_lt i LABEL then (nat_le 2 i && nat_lt i (numbers_end k)) || b == 0 else is_label_byte k b

-- the index of the first byte that the layout forbids, of the bytes of a record from byte i on
abbrev pub first_forbidden : Kind → (i : ℕ) → List ℕ → Option ℕ
first_forbidden k i [] = None
first_forbidden k i (b ∷ bs) = if is_allowed k i b then first_forbidden k (i + 1) bs else Some i
