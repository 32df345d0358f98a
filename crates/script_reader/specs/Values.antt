-- What the fields of a node stand for.
use Rattle.std.specs.Prelude.{◌≡◌, ◌≢◌, ◌<◌, ◌≤◌, ◌==◌, ◌⊎◌, ℕ, List, [], ◌∷◌, ◌++◌, length, slice_index}
use Rattle.std.specs.List.{slice_split}
use Rattle.std.specs.Fmt.{decimal}
use Rattle.std.specs.Str.Parse.{AllDigits, digits_value}
use Rattle.hex.specs.Hex.{IsBytes}
use Rattle.ost_types.specs.Csum.{hex_of}
use Rattle.ost_types.specs.declared.meta.Xattr.{Xattr}
use Rattle.ost_forms.specs.declared.tree_item.BodySpec.{BodySpec}
use Rattle.ost_forms.specs.declared.tree_item.BodySpec.TheVariants.{Given, Fill, Target}
use Rattle.script.specs.Field.{IsFieldOf, IsTextField, Spells}

-- what stands between the bytes at which a text is cut
abbrev pub pieces : ℕ → List ℕ → List (List ℕ)
pieces byte text = slice_split (λ b. b == byte) text

-- 1 to 4 octal digits of this value, and no `0` (48) in front of others
pub record IsOctal (digits : List ℕ) (bits : ℕ) : Type 0 where
  pub some : 0 < length digits
  pub few : length digits ≤ 4
  pub octal : AllDigits 8 digits
  pub front : slice_index digits 0 ≡ 48 → length digits ≡ 1
  pub value : digits_value 8 digits ≡ bits

-- the field of a node's permissions
abbrev pub IsMode : List ℕ → ℕ → Type 0
IsMode = IsFieldOf IsOctal

-- the name and the value of an attribute in hexadecimal digits, with `:` (58) between them
pub record IsPair (pair : List ℕ) (xattr : Xattr) : Type 0 where
  pub parts : pieces 58 pair ≡ hex_of xattr.name ∷ hex_of xattr.value ∷ []
  pub name : IsBytes xattr.name
  pub value : IsBytes xattr.value

-- each is the pair of the attribute at its place
abbrev pub ArePairs : List (List ℕ) → List Xattr → Type 0
ArePairs [] [] = Unit {0}
ArePairs [] (x ∷ xattrs) = ⊥
ArePairs (pair ∷ pairs) [] = ⊥
ArePairs (pair ∷ pairs) (x ∷ xattrs) = IsPair pair x × ArePairs pairs xattrs

-- pairs with `,` (44) between them; no attributes are the empty text
abbrev pub HasXattrs : List ℕ → List Xattr → Type 0
HasXattrs text xattrs = ((text ≡ []) × (xattrs ≡ [])) ⊎ ((text ≢ []) × ArePairs (pieces 44 text) xattrs)

-- the field of a node's attributes
abbrev pub IsXattrs : List ℕ → List Xattr → Type 0
IsXattrs = IsFieldOf HasXattrs

-- the most bytes of a content that is one byte many times
abbrev pub fill_limit : ℕ
fill_limit = 268435456

-- `*n:hh`: n bytes of the value hh, where `*` is 42 and `:` is 58
pub record IsFillText (text : List ℕ) (len : ℕ) (byte : ℕ) : Type 0 where
  pub written : text ≡ 42 ∷ (decimal len ++ (58 ∷ hex_of (byte ∷ [])))
  pub few : len ≤ fill_limit
  pub small : byte < 256

abbrev pub IsFillBody : List ℕ → BodySpec → Type 0
IsFillBody text (Given bytes) = ⊥
IsFillBody text (Fill len byte) = IsFillText text len byte
IsFillBody text (Target target) = ⊥

-- the field of a file's content: `=` (61) and the bytes themselves, or one byte many times
abbrev pub IsContent : List ℕ → BodySpec → Type 0
IsContent field (Given bytes) = (text : List ℕ) × (field ≡ 61 ∷ text) × Spells text bytes
IsContent field (Fill len byte) = IsFieldOf IsFillBody field (Fill len byte)
IsContent field (Target target) = ⊥

-- the field of a link's target, which isn't empty
pub record IsTarget (field : List ℕ) (target : List ℕ) : Type 0 where
  pub text : IsTextField field target
  pub some : target ≢ []
