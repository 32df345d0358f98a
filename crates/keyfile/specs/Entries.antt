-- The keys of a keyfile with their groups and values.
use Rattle.std.specs.Prelude.{◌≡◌, ◌≢◌, ◌⊎◌, ℕ, List, [], ◌∷◌, ◌++◌, if◌then◌else◌}
use Rattle.ost_types.specs.Path.{same_name}
use Rattle.keyfile.specs.declared.entry.KeyLine.{KeyLine}
use Rattle.keyfile.specs.Line.{Line, IsGroupName, IsKeyName, IsValue, file_text}
use Rattle.keyfile.specs.Line.Line.{Blank, Comment, Group, Key}

-- the keys of these lines, the first of which stand in this group
unfoldable pub entries_in : List ℕ → List Line → List KeyLine
entries_in group [] = []
entries_in group (Blank ∷ lines) = entries_in group lines
entries_in group (Comment text ∷ lines) = entries_in group lines
entries_in group (Group name ∷ lines) = entries_in name lines
entries_in group (Key key value ∷ lines) = record { group = group; key = key; value = value } ∷ entries_in group lines

-- each key with the last group before it; there is one, where the lines are sound
abbrev pub entries_of : List Line → List KeyLine
entries_of lines = entries_in [] lines

-- the line of a group, where it isn't the one before
abbrev pub heading : List ℕ → List ℕ → List Line
heading group next = if same_name next group then [] else (Group next ∷ [])

-- the lines of these entries behind lines of this group
unfoldable pub lines_in : List ℕ → List KeyLine → List Line
lines_in group [] = []
lines_in group (e ∷ entries) = heading group e.group ++ Key e.key e.value ∷ lines_in e.group entries

-- No group has the empty name, so the first line is a group's.
abbrev pub keyfile_text : List KeyLine → List ℕ
keyfile_text entries = file_text (lines_in [] entries)

pub record IsEntry (e : KeyLine) : Type 0 where
  pub group : IsGroupName e.group
  pub key : IsKeyName e.key
  pub value : IsValue e.value

-- no entry is of this group
abbrev pub HasNone : List ℕ → List KeyLine → Type 0
HasNone group [] = Unit {0}
HasNone group (e ∷ entries) = (e.group ≢ group) × HasNone group entries

-- behind an entry of this group the next one is of it too, or none is
abbrev pub StaysOrEnds : List ℕ → List KeyLine → Type 0
StaysOrEnds group [] = Unit {0}
StaysOrEnds group (e ∷ entries) = (e.group ≡ group) ⊎ HasNone group (e ∷ entries)

-- no entry of this group has this key
abbrev pub HasNoKey : List ℕ → List ℕ → List KeyLine → Type 0
HasNoKey group key [] = Unit {0}
HasNoKey group key (e ∷ entries) = (e.group ≡ group → e.key ≢ key) × HasNoKey group key entries

-- What a keyfile can say: entries with names and values as the lines have them, those of a group together, and no key twice in its
-- group.
abbrev pub AreEntries : List KeyLine → Type 0
AreEntries [] = Unit {0}
AreEntries (e ∷ entries) = IsEntry e × StaysOrEnds e.group entries × HasNoKey e.group e.key entries × AreEntries entries
