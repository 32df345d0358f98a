-- What may be wrong with a line for the sake of those before it.
use Rattle.std.specs.Prelude.{◌≡◌, ◌⊎◌, ℕ, List, [], ◌∷◌, ◌++◌}
use Rattle.keyfile.specs.Line.{Line, IsLine}
use Rattle.keyfile.specs.Line.Line.{Blank, Comment, Group, Key}

abbrev pub IsGroupLine : List ℕ → Line → Type 0
IsGroupLine name Blank = ⊥
IsGroupLine name (Comment text) = ⊥
IsGroupLine name (Group group) = group ≡ name
IsGroupLine name (Key key value) = ⊥

abbrev pub IsKeyLine : List ℕ → Line → Type 0
IsKeyLine name Blank = ⊥
IsKeyLine name (Comment text) = ⊥
IsKeyLine name (Group group) = ⊥
IsKeyLine name (Key key value) = key ≡ name

-- a group of this name is among the lines
abbrev pub HasGroup : List ℕ → List Line → Type 0
HasGroup name [] = ⊥
HasGroup name (line ∷ lines) = IsGroupLine name line ⊎ HasGroup name lines

abbrev pub HasNoGroup : List Line → Type 0
HasNoGroup lines = (name : List ℕ) → ¬ (HasGroup name lines)

-- a key of this name is among the lines, with no group behind it
abbrev pub HasKey : List ℕ → List Line → Type 0
HasKey name [] = ⊥
HasKey name (line ∷ lines) = (IsKeyLine name line × HasNoGroup lines) ⊎ HasKey name lines

-- a key that belongs to no group
abbrev pub IsAlone : List Line → Line → Type 0
IsAlone before Blank = ⊥
IsAlone before (Comment text) = ⊥
IsAlone before (Group name) = ⊥
IsAlone before (Key key value) = HasNoGroup before

-- a second group of one name, or a second key of one name in its group
abbrev pub Repeats : List Line → Line → Type 0
Repeats before Blank = ⊥
Repeats before (Comment text) = ⊥
Repeats before (Group name) = HasGroup name before
Repeats before (Key key value) = HasKey key before

-- nothing is wrong with the line behind these lines
pub record MayFollow (before : List Line) (line : Line) : Type 0 where
  pub line_of : IsLine line
  pub grouped : ¬ (IsAlone before line)
  pub new : ¬ (Repeats before line)

-- behind these lines the others may follow, one after the other
abbrev pub GoOn : List Line → List Line → Type 0
GoOn before [] = Unit {0}
GoOn before (line ∷ lines) = MayFollow before line × GoOn (before ++ line ∷ []) lines

-- lines with which nothing is wrong
abbrev pub AreSound : List Line → Type 0
AreSound lines = GoOn [] lines
