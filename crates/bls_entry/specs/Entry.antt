-- What the lines of a boot entry say.
use Rattle.std.specs.Prelude.{◌≡◌, ◌≢◌, ◌<◌, ◌^◌, ℕ, List, [], ◌∷◌, ◌++◌, if◌then◌else◌, Option, Some, None, MatchOption, IfSome, unwrap_or}
use Rattle.std.specs.Fmt.{decimal}
use Rattle.ost_types.specs.Path.{same_name}
use Rattle.ost_types.specs.Text.{IsText}
use Rattle.bls_entry.specs.declared.entry.BlsEntry.{BlsEntry}
use Rattle.bls_entry.specs.declared.key.Key.{Key}
use Rattle.bls_entry.specs.declared.key.Key.TheVariants.{Title, Version, Options, Linux, Initrd}
use Rattle.bls_entry.specs.Line.{Line, IsLine, IsValue, file_text, spelled}
use Rattle.bls_entry.specs.Line.Line.{Blank, Comment, Setting}
use Rattle.bls_entry.specs.Options.{HasOstree}

-- the value of the first line with this key
unfoldable pub value_of : Key → List Line → Option (List ℕ)
value_of known [] = None
value_of known (Blank ∷ lines) = value_of known lines
value_of known (Comment text ∷ lines) = value_of known lines
value_of known (Setting key blanks value ∷ lines) = if same_name key (spelled known) then Some value else value_of known lines

-- the line's key is no key that is read, or none of the lines before has it
abbrev pub IsNew : List Line → Line → Type 0
IsNew before Blank = Unit {0}
IsNew before (Comment text) = Unit {0}
IsNew before (Setting key blanks value) = (known : Key) → key ≡ spelled known → value_of known before ≡ None

-- nothing is wrong with the line behind these lines
pub record MayFollow (before : List Line) (line : Line) : Type 0 where
  pub line_of : IsLine line
  pub new : IsNew before line

-- behind these lines the others may follow, one after the other
abbrev pub GoOn : List Line → List Line → Type 0
GoOn before [] = Unit {0}
GoOn before (line ∷ lines) = MayFollow before line × GoOn (before ++ line ∷ []) lines

-- lines with which nothing is wrong
abbrev pub AreSound : List Line → Type 0
AreSound lines = GoOn [] lines

-- a version that isn't said is 0
abbrev pub IsVersionOf : ℕ → Option (List ℕ) → Type 0
IsVersionOf n None = n ≡ 0
IsVersionOf n (Some value) = (n < 2 ^ 32) × (value ≡ decimal n)

-- the options name one deployment
abbrev pub NamesOne : List ℕ → Type 0
NamesOne options = (value : List ℕ) × HasOstree options value

-- what the lines say: a title or a kernel that isn't said is the empty text, and options name a deployment
pub record AreLinesOf (e : BlsEntry) (lines : List Line) : Type 0 where
  pub title : e.title ≡ unwrap_or (value_of Title lines) []
  pub version : IsVersionOf e.version (value_of Version lines)
  pub options : value_of Options lines ≡ Some e.options
  pub linux : e.linux ≡ unwrap_or (value_of Linux lines) []
  pub initrd : e.initrd ≡ value_of Initrd lines
  pub ostree : NamesOne e.options

-- a text that a line may have as its value
pub record MayStand (value : List ℕ) : Type 0 where
  pub text : IsText value
  pub line : IsValue value

-- What a boot entry can say: values as lines have them, and options that name a deployment.
pub record CanBeWritten (e : BlsEntry) : Type 0 where
  pub title : MayStand e.title
  pub version : e.version < 2 ^ 32
  pub options : MayStand e.options
  pub ostree : NamesOne e.options
  pub linux : MayStand e.linux
  pub initrd : IfSome e.initrd MayStand

-- a key with one space behind it
abbrev pub line_of : Key → List ℕ → Line
line_of known value = Setting (spelled known) (32 ∷ []) value

abbrev pub initrd_lines : Option (List ℕ) → List Line
initrd_lines None = []
initrd_lines (Some path) = line_of Initrd path ∷ []

-- the lines of an entry
abbrev pub lines_of : BlsEntry → List Line
lines_of e = line_of Title e.title ∷ line_of Version (decimal e.version) ∷ line_of Options e.options ∷ line_of Linux e.linux ∷ initrd_lines e.initrd

abbrev pub entry_text : BlsEntry → List ℕ
entry_text e = file_text (lines_of e)
