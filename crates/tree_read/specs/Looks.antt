-- What is told of one object of a commit.
use Rattle.std.specs.Prelude.{◌≡◌, ◌≢◌, ℕ, List, Result, Ok, Err}
use Rattle.ost_types.specs.declared.meta.Meta.{Meta}
use Rattle.ost_types.specs.declared.object.Kind.{Kind}
use Rattle.ost_types.specs.Mode.{IsFolderMode}
use Rattle.ost_types.specs.declared.object.ObjName.{ObjName}
use Rattle.ost_forms.specs.declared.fault.ObjFault.{ObjFault}
use Rattle.ost_forms.specs.declared.fault.ObjFault.TheVariants as read
use Rattle.ost_objects.specs.Object.{Misreads}
use Rattle.ost_objects.specs.declared.fault.CheckFault.{CheckFault}
use Rattle.fs_trait.specs.declared.types.FsErr.{FsErr}
use Rattle.fs_trait.specs.declared.types.Value.TheVariants as value
use Rattle.fs_trait.specs.declared.types.FsErr.TheVariants as fs
use Rattle.fs_trait.specs.Effect.{OfNone}
use Rattle.fs_trait.specs.View.{Disk}
use Rattle.repo_model.specs.Objects.{path_of}
use Rattle.obj_store.specs.declared.fault.LoadFault.TheVariants as load
use Rattle.obj_store.specs.Lookup.{Loads}
use Rattle.tree_read.specs.declared.looked.Looked.{Looked}
use Rattle.tree_read.specs.declared.looked.Looked.TheVariants.{Here, Absent, Damaged}

-- nothing stands at the object's path
abbrev pub IsAbsent : Disk → ObjName → Type 0
IsAbsent d name = d.at (path_of name) ≡ value.Absent

-- something stands there that hasn't the name, or doesn't read as the kind, where content of a file has at most so many bytes
abbrev pub IsDamaged : Disk → ℕ → ObjName → Type 0
IsDamaged d content name = (f : CheckFault) × Loads d name content (Err (load.Damaged f))

-- Each answer of a look at an object, which has P where it is there.
abbrev pub Looks : {T : Type 0} → Disk → ℕ → ObjName → (T → Type 0) → Result (Looked T) FsErr → Type 0
Looks d content name P (Ok (Here x)) = P x
Looks d content name P (Ok Absent) = IsAbsent d name
Looks d content name P (Ok Damaged) = IsDamaged d content name
Looks d content name P (Err e) = OfNone e

-- Each answer of the reader of a kind over bytes that are there, where content of a file has at most so many.
abbrev pub Reads : {T : Type 0} → Kind → ℕ → List ℕ → (T → Type 0) → Result (Looked T) FsErr → Type 0
Reads kind content bytes P (Ok (Here x)) = P x
Reads kind content bytes P (Ok Absent) = ⊥
Reads kind content bytes P (Ok Damaged) = (e : ObjFault) × Misreads kind content bytes e × (e ≢ read.NoMemory)
Reads kind content bytes P (Err fs.NoMemory) = Unit {0}
Reads kind content bytes P (Err e) = ⊥

-- the attributes that are there are a folder's
abbrev pub OfFolder : Result (Looked Meta) FsErr → Type 0
OfFolder (Ok (Here m)) = IsFolderMode m.mode
OfFolder r = Unit {0}
