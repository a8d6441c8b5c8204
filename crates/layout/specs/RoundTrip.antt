-- What is written reads back, and what is read has one written form.
use Rattle.std.specs.Prelude.{◌≡◌, ℕ, ◌^◌, ◌<◌, List, ◌++◌, length, Some, None, Ok, Err, Option, Result}
use Rattle.layout.specs.declared.fault.ReadFault.{ReadFault}
use Rattle.layout.specs.Content.{Content, offer, strike, tick}
use Rattle.layout.specs.Jobs.{IsSized}
use Rattle.layout.specs.Label.{trimmed_label}
use Rattle.layout.specs.Reading.{read_answer}
use Rattle.layout.specs.Writing.{write_check, encoding_of}

-- the content as it reads back: the label without its last spaces
abbrev pub trimmed_content : Content → Content
trimmed_content (offer j l) = offer j (trimmed_label l)
trimmed_content (strike t) = strike t
trimmed_content tick = tick

-- the numbers have the sizes of the code's fields
abbrev pub IsSizedContent : Content → Type 0
IsSizedContent (offer j l) = IsSized j
IsSizedContent (strike t) = t < 2 ^ 16
IsSizedContent tick = Unit {0}

-- the writer takes the content, given room
abbrev pub IsWritable : Content → Type 0
IsWritable c = IsSizedContent c × (write_check c ≡ Ok tt)

-- wherever the bytes stand in an input, they read as the content
abbrev pub ReadsAs : List ℕ → Content → Type 0
ReadsAs b c = (before after : List ℕ) → read_answer (before ++ (b ++ after)) (length before) ≡ Ok (Some c)

-- some content that the writer takes reads back as c
abbrev pub HasForm : Content → Type 0
HasForm c = (x : Content) × (IsWritable x × (trimmed_content x ≡ c))

-- the writer writes b for each content that reads back as c
abbrev pub EachFormIs : Content → List ℕ → Type 0
EachFormIs c b = (x : Content) → IsWritable x → trimmed_content x ≡ c → encoding_of x ≡ b

-- what was read from the bytes b has one written form, which is b
abbrev pub IsOnlyForm : Result (Option Content) ReadFault → List ℕ → Type 0
IsOnlyForm (Ok (Some c)) b = HasForm c × EachFormIs c b
IsOnlyForm (Ok None) b = Unit {0}
IsOnlyForm (Err e) b = Unit {0}
