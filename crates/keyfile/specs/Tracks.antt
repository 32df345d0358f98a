-- What the reader knows of the lines that it has taken.
use Rattle.std.specs.Prelude.{◌≡◌, ◌↔◌, ℕ, IsTrue, List, [], ◌∷◌, Option, Some, None}
use Rattle.keyfile.specs.declared.reader.Reader.{Reader}
use Rattle.keyfile.specs.declared.fault.KeyFault.{KeyFault}
use Rattle.keyfile.specs.declared.fault.KeyFault.TheVariants.{BadLine, NoGroup, Repeated, NoMemory}
use Rattle.keyfile.specs.Names.{has}
use Rattle.keyfile.specs.Line.{Line, IsLine, line_text}
use Rattle.keyfile.specs.Line.Line.{Blank, Comment, Group, Key}
use Rattle.keyfile.specs.Faults.{HasGroup, HasNoGroup, HasKey, IsAlone, Repeats, AreSound}
use Rattle.keyfile.specs.Entries.{entries_of}

-- the group behind lines that begin in this one
unfoldable pub group_behind : List ℕ → List Line → List ℕ
group_behind group [] = group
group_behind group (Blank ∷ lines) = group_behind group lines
group_behind group (Comment text ∷ lines) = group_behind group lines
group_behind group (Group name ∷ lines) = group_behind name lines
group_behind group (Key key value ∷ lines) = group_behind group lines

pub record IsLast (name : List ℕ) (lines : List Line) : Type 0 where
  pub last : name ≡ group_behind [] lines
  pub there : HasGroup name lines

abbrev pub HasLast : Option (List ℕ) → List Line → Type 0
HasLast None lines = HasNoGroup lines
HasLast (Some name) lines = IsLast name lines

-- it has taken these lines
pub record Tracks (r : Reader) (lines : List Line) : Type 0 where
  pub sound : AreSound lines
  pub entries : r.entries.items ≡ entries_of lines
  pub group : HasLast r.group lines
  pub groups : (name : List ℕ) → IsTrue (has r.groups name) ↔ HasGroup name lines
  pub keys : (name : List ℕ) → IsTrue (has r.keys name) ↔ HasKey name lines

-- the line with this text
abbrev pub HasText : Line → List ℕ → Type 0
HasText line text = IsLine line × (text ≡ line_text line)

-- the line, which has this number, may not follow for this reason
abbrev pub Refuses : List Line → Line → ℕ → KeyFault → Type 0
Refuses before line number (BadLine n) = ⊥
Refuses before line number (NoGroup n) = (n ≡ number) × IsAlone before line
Refuses before line number (Repeated n) = (n ≡ number) × Repeats before line
Refuses before line number NoMemory = Unit {0}

-- the same of a text, which may be none of a line
abbrev pub RefusesText : List Line → List ℕ → ℕ → KeyFault → Type 0
RefusesText before text number (BadLine n) = (n ≡ number) × ((line : Line) → ¬ (HasText line text))
RefusesText before text number (NoGroup n) = (n ≡ number) × (line : Line) × HasText line text × IsAlone before line
RefusesText before text number (Repeated n) = (n ≡ number) × (line : Line) × HasText line text × Repeats before line
RefusesText before text number NoMemory = Unit {0}
