-- What is told of the objects of a disk.
use Rattle.std.specs.Prelude.{◌≡◌, ◌⊎◌, ◌≤◌, ◌+◌, ℕ, List, length, Option, Some, None, Result, Ok, Err}
use Rattle.std.specs.declared.cmp.Ordering.TheVariants.{Less}
use Rattle.ost_types.specs.declared.limits.Limits.{Limits}
use Rattle.ost_types.specs.declared.object.Kind.TheVariants as kind
use Rattle.ost_types.specs.declared.object.ObjName.{ObjName}
use Rattle.ost_types.specs.Path.{path_cmp}
use Rattle.ost_objects.specs.declared.fault.CheckFault.{CheckFault}
use Rattle.fs_trait.specs.Effect.{OfNone}
use Rattle.fs_trait.specs.View.{Disk}
use Rattle.repo_model.specs.Objects.{Has, Stores, path_of}
use Rattle.repo_model.specs.Trees.{name_of}
use Rattle.obj_store.specs.declared.fault.LoadFault.TheVariants as load
use Rattle.obj_store.specs.Lookup.{Loads}
use Rattle.store_check.specs.declared.fault.ObjectsFault.{ObjectsFault}
use Rattle.store_check.specs.declared.fault.ObjectsFault.TheVariants.{TooMany, Damaged, Fs, NoMemory}
use Rattle.store_check.specs.declared.kept.Kept.{Kept}
use Rattle.store_check.specs.declared.kept.SoundObjects.{SoundObjects}
use Rattle.store_check.specs.Keeping.{AreKept}
use Rattle.store_check.specs.Listing.{IsThere, AreAll, HasFew, HasMore}

-- What stands at the object's path, if anything does, is the object of that name, and reads as its kind, where content of a file
-- has at most so many bytes.
abbrev pub IsSound : Disk → ℕ → ObjName → Type 0
IsSound d content name = IsThere d name → Has (Stores d) content name

-- something else stands there
abbrev pub IsBad : Disk → ℕ → ObjName → CheckFault → Type 0
IsBad d content name fault = Loads d name content (Err (load.Damaged fault))

-- The first object by path of which something else stands at its path.
pub record IsFirstBad (d : Disk) (content : ℕ) (name : ObjName) (fault : CheckFault) : Type 0 where
  pub there : IsThere d name
  pub bad : IsBad d content name fault
  pub least : (other : ObjName) → path_cmp (path_of other) (path_of name) ≡ Less → IsSound d content other

-- Each object is what its name says, there are at most so many, and these are their names.
pub record AreSound (d : Disk) (limits : Limits) (names : List ObjName) : Type 0 where
  pub all : AreAll d names
  pub few : length names ≤ limits.objects
  pub sound : (name : ObjName) → IsSound d limits.content name

-- These are their names, and what is kept of them is theirs.
pub record AreFound (d : Disk) (limits : Limits) (objects : SoundObjects) : Type 0 where
  pub sound : AreSound d limits objects.names.items
  pub theirs : AreKept d objects.kept

-- Each answer of the check of all objects.
abbrev pub ChecksObjects : Disk → Limits → Result SoundObjects ObjectsFault → Type 0
ChecksObjects d limits (Ok objects) = AreFound d limits objects
ChecksObjects d limits (Err (TooMany n)) = (n ≡ limits.objects + 1) × HasMore d limits.objects
ChecksObjects d limits (Err (Damaged name fault)) = HasFew d limits.objects × IsFirstBad d limits.content name fault
ChecksObjects d limits (Err (Fs e)) = OfNone e
ChecksObjects d limits (Err NoMemory) = Unit {0}

-- Each answer of the check of those that were listed.
abbrev pub ChecksEach : Disk → ℕ → Result Kept ObjectsFault → Type 0
ChecksEach d content (Ok kept) = ((name : ObjName) → IsSound d content name) × AreKept d kept
ChecksEach d content (Err (TooMany n)) = ⊥
ChecksEach d content (Err (Damaged name fault)) = IsFirstBad d content name fault
ChecksEach d content (Err (Fs e)) = OfNone e
ChecksEach d content (Err NoMemory) = Unit {0}

-- Each answer of the check of one object.
abbrev pub Finds : Disk → ℕ → ObjName → Result (Option CheckFault) ObjectsFault → Type 0
Finds d content name (Ok None) = IsSound d content name
Finds d content name (Ok (Some fault)) = IsBad d content name fault
Finds d content name (Err (TooMany n)) = ⊥
Finds d content name (Err (Damaged other fault)) = ⊥
Finds d content name (Err (Fs e)) = OfNone e
Finds d content name (Err NoMemory) = Unit {0}

-- the attributes of a folder that have the same sum
abbrev pub attributes_of : ObjName → ObjName
attributes_of name = name_of kind.DirMeta name.csum

-- The damage of one object, or of the attributes beside these entries, which come first by path.
abbrev pub IsFirstOf : Disk → ℕ → ObjName → CheckFault → ObjectsFault → Type 0
IsFirstOf d content name fault (Damaged other found) =
    ((other ≡ name) × (found ≡ fault) × (name.kind ≡ kind.DirTree → IsSound d content (attributes_of name)))
    ⊎ ((name.kind ≡ kind.DirTree) × (other ≡ attributes_of name) × IsBad d content other found)
IsFirstOf d content name fault (TooMany n) = ⊥
IsFirstOf d content name fault (Fs e) = OfNone e
IsFirstOf d content name fault NoMemory = Unit {0}
