-- What a commit consists of, and which bytes are brought into a store.
use Rattle.std.specs.Prelude.{◌≡◌, ◌≢◌, ◌↔◌, ℕ, List, Contains, Some}
use Rattle.ost_types.specs.declared.limits.Limits.{Limits}
use Rattle.ost_types.specs.declared.object.Kind.TheVariants.{Commit}
use Rattle.ost_types.specs.declared.object.ObjName.{ObjName}
use Rattle.fs_trait.specs.View.{Disk, View}
use Rattle.fs_trait.specs.Seen.{Seen, MayBe}
use Rattle.repo_model.specs.Objects.{Store, Stores, object_in, path_of}
use Rattle.repo_model.specs.Trees.{name_of}
use Rattle.repo_model.specs.Whole.{Complete}
use Rattle.reach.specs.Reach.{Is, IsIn, Reach}
use Rattle.tree_build.specs.Objects.{Object}
use Rattle.rely_guarantee.specs.Lasting.{IsSafe}

-- these objects as a store; two of them may have one name
abbrev pub Having : List Object → Store
Having objects name bytes = (o : Object) × Contains objects o × (o.name ≡ name) × (o.bytes ≡ bytes)

-- The objects make up the commit: exactly they are reached from it over them, and a disk that has all of them has the commit whole.
pub record MakeUp (limits : Limits) (objects : List Object) (commit : List ℕ) : Type 0 where
  pub reached : (name : ObjName) → Reach (Having objects) (Is (name_of Commit commit)) name ↔ IsIn (Having objects) name
  pub whole : (d : Disk) → ((o : Object) → Contains objects o → Stores d o.name o.bytes) → Complete (Stores d) limits commit

-- each of them is brought, under its name
abbrev pub AreBrought : Store → List Object → Type 0
AreBrought brings objects = (o : Object) → Contains objects o → brings o.name o.bytes

-- those of them that a crash may leave with the right bytes
abbrev pub MayRight : View → List Object → Store
MayRight v objects name bytes = Having objects name bytes × (s : Seen) × MayBe v (path_of name) s × (object_in name.kind s ≡ Some bytes)

-- each that is reached from the commit over right bytes no crash leaves away
abbrev pub IsHeldUp : View → List Object → List ℕ → Type 0
IsHeldUp v objects commit = (name : ObjName) → name.kind ≢ Commit → Reach (MayRight v objects) (Is (name_of Commit commit)) name → IsSafe v name

-- No other bytes on the disk have the name of bytes that are brought, which is their SHA-256.
abbrev pub NoHashCollisionOn : Store → Disk → Type 0
NoHashCollisionOn brings d = (name : ObjName) (bytes other : List ℕ) → brings name bytes → Stores d name other → other ≡ bytes
