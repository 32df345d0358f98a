-- What the reader knows of the lines that it has taken: the value of each key.
use Rattle.std.specs.Prelude.{◌≡◌, ℕ, List, [], ◌∷◌, ◌++◌, Option, Some, None, IfSome}
use Rattle.std.specs.Option.{option_copied, option_map}
use Rattle.std.specs.Fmt.{decimal}
use Rattle.ost_types.specs.Text.{IsText}
use Rattle.bls_entry.specs.declared.entry.BlsEntry.{BlsEntry}
use Rattle.bls_entry.specs.declared.fault.BlsFault.{BlsFault}
use Rattle.bls_entry.specs.declared.fault.BlsFault.TheVariants.{BadLine, NoOptions, NoOstree, NoMemory}
use Rattle.bls_entry.specs.declared.found.Found.{Found}
use Rattle.bls_entry.specs.declared.key.Key.{Key}
use Rattle.bls_entry.specs.declared.key.Key.TheVariants.{Title, Version, Options, Linux, Initrd}
use Rattle.bls_entry.specs.Line.{Fits, Line, line_text}
use Rattle.bls_entry.specs.Entry.{AreLinesOf, MayFollow, value_of}
use Rattle.bls_entry.specs.Reading.{NamesNone}

pub record Values : Type 0 where
  pub title : Option (List ℕ)
  pub version : Option (List ℕ)
  pub options : Option (List ℕ)
  pub linux : Option (List ℕ)
  pub initrd : Option (List ℕ)

abbrev pub value_in : Values → Key → Option (List ℕ)
value_in v Title = v.title
value_in v Version = v.version
value_in v Options = v.options
value_in v Linux = v.linux
value_in v Initrd = v.initrd

abbrev pub with_value : Values → Key → List ℕ → Values
with_value v Title value = record v { title = Some value }
with_value v Version value = record v { version = Some value }
with_value v Options value = record v { options = Some value }
with_value v Linux value = record v { linux = Some value }
with_value v Initrd value = record v { initrd = Some value }

-- the values in the lines
abbrev pub values_of : List Line → Values
values_of lines = record {
  title = value_of Title lines;
  version = value_of Version lines;
  options = value_of Options lines;
  linux = value_of Linux lines;
  initrd = value_of Initrd lines;
}

-- the values that the reader has
abbrev pub shown : Found → Values
shown f = record {
  title = option_copied f.title;
  version = option_map decimal f.version;
  options = option_copied f.options;
  linux = option_copied f.linux;
  initrd = option_copied f.initrd;
}

abbrev pub Tracks : Found → List Line → Type 0
Tracks f lines = shown f ≡ values_of lines

-- the values are texts
pub record AreTexts (v : Values) : Type 0 where
  pub title : IfSome v.title IsText
  pub options : IfSome v.options IsText
  pub linux : IfSome v.linux IsText
  pub initrd : IfSome v.initrd IsText

-- the key was new, and has its value now
pub record Takes (old new : Values) (known : Key) (value : List ℕ) : Type 0 where
  pub fits : Fits known value
  pub absent : value_in old known ≡ None
  pub taken : new ≡ with_value old known value

-- the key may have no such value, or has one already
abbrev pub Refuses : Values → Key → List ℕ → Type 0
Refuses old known value = Fits known value → value_in old known ≡ None → ⊥

-- the line, of which this is the text, may follow the others, and its value is known
pub record Follows (before : List Line) (text : List ℕ) (new : Found) : Type 0 where
  pub line : Line
  pub text_of : text ≡ line_text line
  pub may : MayFollow before line
  pub tracks : Tracks new (before ++ line ∷ [])

-- no line with this text may follow
abbrev pub MayNot : List Line → List ℕ → Type 0
MayNot before text = (line : Line) → text ≡ line_text line → ¬ (MayFollow before line)

-- the lines are no entry's, for this reason
abbrev pub IsNone : List Line → BlsFault → Type 0
IsNone lines (BadLine n) = ⊥
IsNone lines NoOptions = value_of Options lines ≡ None
IsNone lines NoOstree = NamesNone (value_of Options lines)
IsNone lines NoMemory = Unit {0}
