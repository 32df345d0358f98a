-- The lines of a boot entry, each without the newline behind it (Boot Loader Specification, "Type #1 Boot Loader Entry Keys").
use Rattle.std.specs.Prelude.{◌≡◌, ◌≢◌, ◌<◌, ◌^◌, ◌==◌, ◌||◌, ℕ, Bool, true, false, List, [], ◌∷◌, ◌++◌, All, codes}
use Rattle.std.specs.Fmt.{decimal}
use Rattle.ost_types.specs.Text.{IsText}
use Rattle.bls_entry.specs.declared.key.Key.{Key}
use Rattle.bls_entry.specs.declared.key.Key.TheVariants.{Title, Version, Options, Linux, Initrd}

-- nothing; `#` and what stands behind it; a key, the blanks behind it, and its value
pub data Line : Type 0 where
  Blank : Line
  Comment : List ℕ → Line
  Setting : List ℕ → List ℕ → List ℕ → Line

-- a line's bytes
abbrev pub line_text : Line → List ℕ
line_text Blank = []
line_text (Comment text) = 35 ∷ text
line_text (Setting key blanks value) = key ++ (blanks ++ value)

-- each line has a newline behind it
unfoldable pub file_text : List Line → List ℕ
file_text [] = []
file_text (line ∷ lines) = line_text line ++ 10 ∷ file_text lines

abbrev pub IsOneLine : List ℕ → Type 0
IsOneLine text = All (λ b. b ≢ 10) text

-- a space or a tab
abbrev pub is_blank : ℕ → Bool
is_blank b = b == 32 || b == 9

-- some bytes, the first of which is no `#`
abbrev pub BeginsSetting : List ℕ → Type 0
BeginsSetting [] = ⊥
BeginsSetting (b ∷ text) = b ≢ 35

-- some bytes, the first of which is no blank
abbrev pub BeginsPlain : List ℕ → Type 0
BeginsPlain [] = ⊥
BeginsPlain (b ∷ text) = is_blank b ≡ false

-- nothing, or bytes of which the first is a blank, or is none
abbrev pub EndsOrBegins : Bool → List ℕ → Type 0
EndsOrBegins blank [] = Unit {0}
EndsOrBegins blank (b ∷ text) = is_blank b ≡ blank

-- what stands before the first blank
pub record IsKey (key : List ℕ) : Type 0 where
  pub begins : BeginsSetting key
  pub no_blank : All (λ b. is_blank b ≡ false) key
  pub one_line : IsOneLine key

pub record AreBlanks (blanks : List ℕ) : Type 0 where
  pub some : blanks ≢ []
  pub all : All (λ b. is_blank b ≡ true) blanks

-- what stands behind the blanks, up to the end of the line
pub record IsValue (value : List ℕ) : Type 0 where
  pub begins : BeginsPlain value
  pub one_line : IsOneLine value

pub record IsSetting (key blanks value : List ℕ) : Type 0 where
  pub before : IsKey key
  pub between : AreBlanks blanks
  pub behind : IsValue value

-- the keys that are read; others are passed over
abbrev pub spelled : Key → List ℕ
spelled Title = codes "title"
spelled Version = codes "version"
spelled Options = codes "options"
spelled Linux = codes "linux"
spelled Initrd = codes "initrd"

-- a version below 2^32, in decimal digits without leading zeros
abbrev pub IsVersion : List ℕ → Type 0
IsVersion value = (n : ℕ) × (n < 2 ^ 32) × (value ≡ decimal n)

-- what a key that is read may have as its value
abbrev pub Fits : Key → List ℕ → Type 0
Fits Title value = IsText value
Fits Version value = IsVersion value
Fits Options value = IsText value
Fits Linux value = IsText value
Fits Initrd value = IsText value

-- What a line may hold. Behind `#` there may be any bytes, and so in the value of a key that is passed over.
abbrev pub IsLine : Line → Type 0
IsLine Blank = Unit {0}
IsLine (Comment text) = IsOneLine text
IsLine (Setting key blanks value) = IsSetting key blanks value × ((known : Key) → key ≡ spelled known → Fits known value)
