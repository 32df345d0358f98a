-- Fields: runs of bytes from `!` to `~`, in which `%` and two digits stand for any byte.
use Rattle.std.specs.Prelude.{◌≡◌, ◌≢◌, ◌⊎◌, ◌<◌, ◌==◌, ◌&&◌, not, nat_le, ℕ, Bool, IsTrue, if◌then◌else◌, List, [], ◌∷◌, ◌++◌, codes, Option, MatchOption, Ok}
use Rattle.std.specs.List.{flat_map}
use Rattle.std.specs.Fmt.{decimal}
use Rattle.ost_types.specs.Csum.{hex_of}
use Rattle.ost_types.specs.Parse.{IsParsed}
use Rattle.ost_types.specs.Path.{Path}
use Rattle.ost_types.specs.Text.{IsName, IsText}

-- a byte that stands for itself: from `!` to `~`, but for `%`
abbrev pub is_plain : ℕ → Bool
is_plain b = nat_le 33 b && nat_le b 126 && not (b == 37)

-- any other is `%` and its two digits
abbrev pub escaped_byte : ℕ → List ℕ
escaped_byte b = if is_plain b then b ∷ [] else (37 ∷ hex_of (b ∷ []))

-- how bytes are written
abbrev pub escaped : List ℕ → List ℕ
escaped value = flat_map escaped_byte value

-- a value as a field: `~` (126) stands for no bytes, so the one byte `~` is written by its digits
abbrev pub field_text : List ℕ → List ℕ
field_text [] = codes "~"
field_text (b ∷ []) = if b == 126 then codes "%7e" else escaped (b ∷ [])
field_text (b ∷ c ∷ value) = escaped (b ∷ c ∷ value)

-- the text begins with what stands for the byte: itself, where it is plain, or `%` and its two digits
abbrev pub Stands : List ℕ → ℕ → List ℕ → Type 0
Stands text b rest = ((text ≡ b ∷ rest) × IsTrue (is_plain b)) ⊎ (text ≡ 37 ∷ (hex_of (b ∷ []) ++ rest))

-- the text stands for these bytes, one after the other
abbrev pub Spells : List ℕ → List ℕ → Type 0
Spells text [] = text ≡ []
Spells text (b ∷ value) = (b < 256) × (rest : List ℕ) × Stands text b rest × Spells rest value

abbrev pub NotSpelled : List ℕ → Type 0
NotSpelled text = (value : List ℕ) → ¬ (Spells text value)

-- `~` alone is the field of no bytes
abbrev pub IsField : List ℕ → List ℕ → Type 0
IsField field value = ((field ≡ codes "~") × (value ≡ [])) ⊎ ((field ≢ codes "~") × (field ≢ []) × Spells field value)

abbrev pub IsNoField : List ℕ → Type 0
IsNoField field = (value : List ℕ) → ¬ (IsField field value)

-- the value, where there is one, and None only where there is none
abbrev pub Gives : {X : Type 0} → (X → Type 0) → Option X → Type 0
Gives P o = MatchOption o ((x : _) → ¬ (P x)) P

-- the field of a text that is written so for the value
pub record IsFieldOf {X : Type 0} (IsWritten : List ℕ → X → Type 0) (field : List ℕ) (x : X) : Type 0 where
  pub text : List ℕ
  pub spelled : IsField field text
  pub written : IsWritten text x

abbrev pub IsPathText : List ℕ → Path → Type 0
IsPathText text path = IsParsed text (Ok path)

-- the field of a path
abbrev pub IsPathField : List ℕ → Path → Type 0
IsPathField = IsFieldOf IsPathText

-- the field of a number below the bound: its decimal digits, so without leading zeros
pub record IsNumber (bound : ℕ) (field : List ℕ) (n : ℕ) : Type 0 where
  pub spelled : IsField field (decimal n)
  pub below : n < bound

-- the field of a node's name
pub record IsNameField (field name : List ℕ) : Type 0 where
  pub spelled : IsField field name
  pub whole : IsName name

-- the field of a text
pub record IsTextField (field value : List ℕ) : Type 0 where
  pub spelled : IsField field value
  pub text : IsText value
