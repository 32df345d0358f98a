-- The text of a sum: two digits a byte, the high four bits first, with lower case letters.
use Rattle.std.specs.Prelude.{◌≡◌, ◌≤◌, ◌⊎◌, ℕ, List, length, All}
use Rattle.hex.specs.Hex.{encode_lower}

abbrev pub hex_of : List ℕ → List ℕ
hex_of = encode_lower

-- `0` to `9` or `a` to `f`
abbrev pub IsHexDigit : ℕ → Type 0
IsHexDigit b = ((48 ≤ b) × (b ≤ 57)) ⊎ ((97 ≤ b) × (b ≤ 102))

-- the text of some sum
pub record IsHexSum (text : List ℕ) : Type 0 where
  pub whole : length text ≡ 64
  pub digits : All IsHexDigit text
