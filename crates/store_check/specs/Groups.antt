-- What is read of objects, and what is found in it.
use Rattle.std.specs.Prelude.{◌≡◌, ◌≢◌, ◌<◌, ◌≤◌, ◌+◌, ℕ, List, length, slice_index_or, Option, Some, None, Result, Ok, Err}
use Rattle.sha2.specs.Sha256.{sha256}
use Rattle.ost_types.specs.declared.object.Kind.{Kind}
use Rattle.ost_types.specs.declared.object.Kind.TheVariants as kind
use Rattle.ost_types.specs.declared.object.ObjName.{ObjName}
use Rattle.ost_forms.specs.declared.fault.ObjFault.TheVariants as reads
use Rattle.ost_objects.specs.declared.fault.CheckFault.{CheckFault}
use Rattle.ost_objects.specs.declared.fault.CheckFault.TheVariants as check
use Rattle.ost_objects.specs.Object.{HasForm, IsNamed, Misreads}
use Rattle.fs_trait.specs.Count.{Rose}
use Rattle.fs_trait.specs.Effect.{OfNone}
use Rattle.fs_trait.specs.declared.types.FsErr.TheVariants as fs
use Rattle.fs_trait.specs.declared.types.Value.TheVariants.{Absent}
use Rattle.fs_trait.specs.View.{Disk}
use Rattle.repo_model.specs.Objects.{object_at, path_of}
use Rattle.obj_store.specs.declared.fault.LoadFault.{LoadFault}
use Rattle.obj_store.specs.declared.fault.LoadFault.TheVariants.{Fs, Damaged, NoMemory}
use Rattle.obj_store.specs.Lookup.{OpensAt}
use Rattle.store_check.specs.declared.group.Entry.{Entry}
use Rattle.store_check.specs.declared.group.Group.{Group}
use Rattle.store_check.specs.declared.kept.Kept.{Kept}
use Rattle.store_check.specs.declared.fault.ObjectsFault.{ObjectsFault}
use Rattle.store_check.specs.declared.fault.ObjectsFault.TheVariants as objects
use Rattle.store_check.specs.Faults.{FailedBy}
use Rattle.store_check.specs.Keeping.{AreKept}
use Rattle.store_check.specs.Objects.{ChecksEach, IsBad, IsFirstOf, IsSound}

-- these bytes are what stands at the object's path
abbrev pub IsWhatStands : Disk → ObjName → Option (List ℕ) → Type 0
IsWhatStands d name None = d.at (path_of name) ≡ Absent
IsWhatStands d name (Some bytes) = object_at d name ≡ Some bytes

abbrev pub IsRead : Disk → Entry → Type 0
IsRead d e = IsWhatStands d e.name e.bytes × (e.fault ≡ None)

-- it can't be read: a file's mode is none of a file, a file is too long for an object of its kind, or a call was refused
abbrev pub IsStopped : Disk → ObjName → LoadFault → Type 0
IsStopped d name fault = OpensAt d name (Err fault)

-- The entries are of these names from that place on, in order.
abbrev pub AreRead : Disk → List ObjName → ℕ → List Entry → Type 0
AreRead d names from group = (k : ℕ) (e : Entry) → k < length group → e ≡ slice_index_or group k e → (from + k < length names) × (e.name ≡ slice_index_or names (from + k) e.name) × IsRead d e

-- Such entries, and what ended them, if that was the next one.
pub record IsGroup (d : Disk) (names : List ObjName) (from : ℕ) (group : Group) : Type 0 where
  pub read : AreRead d names from group.entries.items
  pub stopped : (fault : LoadFault) → group.stop ≡ Some fault → (name : ObjName) → name ≡ slice_index_or names (from + length group.entries.items) name → IsStopped d name fault

-- its names are among these
pub record IsWithin (names : List ObjName) (from : ℕ) (group : Group) : Type 0 where
  pub whole : from + length group.entries.items ≤ length names
  pub stopped : (fault : LoadFault) → group.stop ≡ Some fault → from + length group.entries.items < length names

-- a call failed only where the count of faults rose, or stands at its last value
abbrev pub StopsBy : ℕ → ℕ → Option LoadFault → Type 0
StopsBy before now stop = stop ≡ Some (Fs fs.Failed) → Rose before now

-- what was found in bytes that are to be the object of this name
abbrev pub Found : ObjName → ℕ → List ℕ → Option CheckFault → Type 0
Found name content bytes None = IsNamed name bytes × HasForm name.kind content bytes
Found name content bytes (Some (check.WrongSum found)) = (found ≡ sha256 bytes) × (found ≢ name.csum)
Found name content bytes (Some (check.Unreadable e)) = IsNamed name bytes × (e ≢ reads.NoMemory) × Misreads name.kind content bytes e
Found name content bytes (Some check.NoMemory) = Unit {0}

abbrev pub FoundIn : ObjName → ℕ → Option (List ℕ) → Option CheckFault → Option CheckFault → Type 0
FoundIn name content None before after = after ≡ before
FoundIn name content (Some bytes) before after = Found name content bytes after

-- what is kept of a sound object: the bytes of a commit and of the entries of a folder, and nothing of others
abbrev pub kept_of : Kind → List ℕ → Option (List ℕ)
kept_of kind.Commit bytes = Some bytes
kept_of kind.DirTree bytes = Some bytes
kept_of kind.DirMeta bytes = None
kept_of kind.File bytes = None

-- and of what was read
abbrev pub left_of : Kind → Option (List ℕ) → Option CheckFault → Option (List ℕ)
left_of k (Some bytes) None = kept_of k bytes
left_of k bytes fault = None

-- an entry once its bytes were looked into
abbrev pub Tests : ℕ → Entry → Entry → Type 0
Tests content old new = (new.name ≡ old.name) × FoundIn old.name content old.bytes old.fault new.fault × (new.bytes ≡ left_of old.name.kind old.bytes new.fault)

-- what an entry tells of the disk then
abbrev pub TellsOf : Disk → ℕ → ObjName → Option CheckFault → Type 0
TellsOf d content name None = IsSound d content name
TellsOf d content name (Some check.NoMemory) = Unit {0}
TellsOf d content name (Some fault) = IsBad d content name fault

abbrev pub AreTested : Disk → ℕ → List ObjName → ℕ → List Entry → Type 0
AreTested d content names from group = (k : ℕ) (e : Entry) → k < length group → e ≡ slice_index_or group k e → (from + k < length names) × (e.name ≡ slice_index_or names (from + k) e.name) × TellsOf d content e.name e.fault

-- the first so many of the names are those of sound objects
abbrev pub AreSoundBefore : Disk → ℕ → List ObjName → ℕ → Type 0
AreSoundBefore d content names count = (k : ℕ) (name : ObjName) → k < count → slice_index_or names k name ≡ name → IsSound d content name

-- so, and what is kept of objects is theirs
pub record IsDone (d : Disk) (content : ℕ) (names : List ObjName) (count : ℕ) (kept : Kept) : Type 0 where
  pub sound : AreSoundBefore d content names count
  pub theirs : AreKept d kept

-- Each answer of the check of a group, which tells the place behind it,
abbrev pub ChecksGroup : Disk → ℕ → List ObjName → Kept → Result ℕ ObjectsFault → Type 0
ChecksGroup d content names kept (Ok next) = IsDone d content names next kept
ChecksGroup d content names kept (Err fault) = ChecksEach d content (Err fault)

-- and of its entries up to that place.
abbrev pub ChecksEntries : Disk → ℕ → List ObjName → ℕ → Result (Unit {0}) ObjectsFault → Type 0
ChecksEntries d content names next (Ok x) = AreSoundBefore d content names next
ChecksEntries d content names next (Err fault) = ChecksEach d content (Err fault)

-- Something is wrong with the object: it is damaged, or can't be read.
abbrev pub IsWrong : Disk → ℕ → ObjName → LoadFault → Type 0
IsWrong d content name (Damaged fault) = IsBad d content name fault
IsWrong d content name (Fs e) = OfNone e
IsWrong d content name NoMemory = Unit {0}

-- What is told of one then: its damage or that of the attributes beside it, or the call that was refused.
abbrev pub TellsStop : Disk → ℕ → ObjName → LoadFault → ObjectsFault → Type 0
TellsStop d content name (Damaged fault) told = IsBad d content name fault × IsFirstOf d content name fault told
TellsStop d content name (Fs e) told = (told ≡ objects.Fs e) × OfNone e
TellsStop d content name NoMemory told = told ≡ objects.NoMemory

-- a call that was refused is told as it is
abbrev pub TellsRefusal : LoadFault → ObjectsFault → Type 0
TellsRefusal (Damaged fault) told = Unit {0}
TellsRefusal (Fs e) told = told ≡ objects.Fs e
TellsRefusal NoMemory told = told ≡ objects.NoMemory

-- a call failed that is told, and wasn't the one that is told already
abbrev pub IsNewFailure : LoadFault → ObjectsFault → Type 0
IsNewFailure (Fs e) told = ⊥
IsNewFailure fault told = FailedBy told
