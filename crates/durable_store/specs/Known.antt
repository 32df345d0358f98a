-- Which bytes a disk ever holds under names of objects.
use Rattle.std.specs.Prelude.{◌≡◌, ◌⊎◌, ◌≤◌, ℕ, List, Some}
use Rattle.ost_types.specs.declared.object.ObjName.{ObjName}
use Rattle.ost_objects.specs.Object.{IsNamed}
use Rattle.fs_trait.specs.View.{Disk, View}
use Rattle.fs_trait.specs.Seen.{Seen, MayBe}
use Rattle.fs_trait.specs.Change.{Left}
use Rattle.repo_model.specs.Objects.{IsMap, Store, Stores, object_in, path_of}

-- the objects of this disk, and what is brought
abbrev pub KnownBytes : Disk → Store → Store
KnownBytes opening brings name bytes = Stores opening name bytes ⊎ brings name bytes

-- No two different byte strings, among the objects of this disk and what is brought, have one name, which is the SHA-256 of the bytes.
abbrev pub NoHashCollision : Disk → Store → Type 0
NoHashCollision opening brings = IsMap (KnownBytes opening brings)

-- each object of the disk is among these
abbrev pub HoldsOnly : Store → Disk → Type 0
HoldsOnly known d = (name : ObjName) (bytes : List ℕ) → Stores d name bytes → known name bytes

-- so is each that a crash may leave
abbrev pub MayHoldOnly : Store → View → Type 0
MayHoldOnly known v = (name : ObjName) (bytes : List ℕ) (s : Seen) → MayBe v (path_of name) s → object_in name.kind s ≡ Some bytes → IsNamed name bytes → known name bytes

-- So it is of the view now, of each disk that a crash left at this moment or later, and of each view that reads had since.
pub record KeepsKnown (was : ℕ → View → Type 0) (known : Store) (moment : ℕ) (v : View) : Type 0 where
  pub now : MayHoldOnly known v
  pub left : (t : ℕ) (d : Disk) → moment ≤ t → Left was t d → HoldsOnly known d
  pub seen : (t : ℕ) (u : View) → moment ≤ t → was t u → HoldsOnly known u.now
