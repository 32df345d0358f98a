-- What is noted as changed.
use Rattle.std.specs.Prelude.{◌≡◌, ◌⊎◌, IsTrue, IsFalse, List, ℕ, Result, OnOk}
use Rattle.std.specs.BTreeSet.{contains_text}
use Rattle.ost_types.specs.Path.{Name, Path, under}
use Rattle.host_files.specs.HostPath.{host_text}
use Rattle.host_files.specs.declared.changed.Changed.{Changed}

abbrev pub IsNoted : List ℕ → Changed → Type 0
IsNoted text c = IsTrue (contains_text c.texts text)

-- noted, or there was no memory for a note, and what changed was synced at once
abbrev pub IsSeenTo : List ℕ → Changed → Type 0
IsSeenTo text c = IsNoted text c ⊎ IsTrue c.is_short

-- all that was noted still is, and what couldn't be is remembered
pub record KeepsNotes (old new : Changed) : Type 0 where
  pub notes : (text : List ℕ) → IsNoted text old → IsNoted text new
  pub short : IsTrue old.is_short → IsTrue new.is_short
  pub lost : IsTrue old.is_lost → IsTrue new.is_lost

-- a call that is Ok has noted the folder in which the last name of a path stands
abbrev pub NotesFolder : {T E : Type 0} → Path → Result T E → Changed → Type 0
NotesFolder at result c = (p : Path) (x : Name) → at ≡ under p x → OnOk result (IsSeenTo (host_text p) c)

-- nothing but this text was forgotten
pub record ForgetsOnly (text : List ℕ) (old new : Changed) : Type 0 where
  pub gone : IsFalse (contains_text new.texts text)
  pub others : (other : List ℕ) → IsNoted other old → IsFalse (contains_text new.texts other) → other ≡ text
