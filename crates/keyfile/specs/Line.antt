-- The lines of a keyfile, each without the newline behind it.
use Rattle.std.specs.Prelude.{◌≡◌, ◌≢◌, ◌⊎◌, ◌≤◌, ℕ, List, [], ◌∷◌, ◌++◌, All}
use Rattle.ost_types.specs.Text.{IsText}

-- nothing; `#` and what stands behind it; the name of a group; a key and its value
pub data Line : Type 0 where
  Blank : Line
  Comment : List ℕ → Line
  Group : List ℕ → Line
  Key : List ℕ → List ℕ → Line

-- a line's bytes: `#..`, `[group]`, `key=value`
abbrev pub line_text : Line → List ℕ
line_text Blank = []
line_text (Comment text) = 35 ∷ text
line_text (Group name) = 91 ∷ (name ++ 93 ∷ [])
line_text (Key key value) = key ++ 61 ∷ value

-- each line has a newline behind it
unfoldable pub file_text : List Line → List ℕ
file_text [] = []
file_text (line ∷ lines) = line_text line ++ 10 ∷ file_text lines

abbrev pub IsOneLine : List ℕ → Type 0
IsOneLine text = All (λ b. b ≢ 10) text

-- `A` to `Z`, `a` to `z`, `0` to `9`, `-`, `_` or `.`
abbrev pub IsKeyByte : ℕ → Type 0
IsKeyByte b = ((65 ≤ b) × (b ≤ 90)) ⊎ ((97 ≤ b) × (b ≤ 122)) ⊎ ((48 ≤ b) × (b ≤ 57)) ⊎ (b ≡ 45) ⊎ (b ≡ 95) ⊎ (b ≡ 46)

pub record IsKeyName (name : List ℕ) : Type 0 where
  pub not_empty : name ≢ []
  pub plain : All IsKeyByte name

-- from the space to `~`, but for the brackets
abbrev pub IsGroupByte : ℕ → Type 0
IsGroupByte b = (32 ≤ b) × (b ≤ 126) × (b ≢ 91) × (b ≢ 93)

pub record IsGroupName (name : List ℕ) : Type 0 where
  pub not_empty : name ≢ []
  pub plain : All IsGroupByte name

-- UTF-8 without zero and newline, which may be empty
pub record IsValue (value : List ℕ) : Type 0 where
  pub text : IsText value
  pub one_line : IsOneLine value

-- what a line may hold; behind `#` there may be any bytes
abbrev pub IsLine : Line → Type 0
IsLine Blank = Unit {0}
IsLine (Comment text) = IsOneLine text
IsLine (Group name) = IsGroupName name
IsLine (Key key value) = IsKeyName key × IsValue value
