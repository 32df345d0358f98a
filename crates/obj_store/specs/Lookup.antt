-- What is told of an object.
use Rattle.std.specs.Prelude.{◌≡◌, ◌≢◌, ◌⊎◌, ◌≤◌, ℕ, Bool, true, false, List, Option, Some, None, Result, Ok, Err}
use Rattle.sha2.specs.Sha256.{sha256}
use Rattle.ost_types.specs.declared.meta.Meta.{Meta}
use Rattle.ost_types.specs.declared.object.Kind.{Kind}
use Rattle.ost_types.specs.declared.object.Kind.TheVariants as kind
use Rattle.ost_types.specs.declared.object.ObjName.{ObjName}
use Rattle.ost_forms.specs.declared.body.Body.{Body}
use Rattle.ost_forms.specs.declared.body.Body.TheVariants.{Regular, Symlink as Link}
use Rattle.ost_forms.specs.Stream.{IsFile, IsHeader, bytes_of, content_form, header_of}
use Rattle.ost_forms.specs.declared.fault.ObjFault.{ObjFault}
use Rattle.ost_forms.specs.declared.fault.ObjFault.TheVariants as read
use Rattle.ost_objects.specs.declared.checked.Checked.{Checked}
use Rattle.ost_objects.specs.declared.fault.CheckFault.{CheckFault}
use Rattle.ost_objects.specs.declared.fault.CheckFault.TheVariants as check
use Rattle.ost_objects.specs.Object.{IsNamed, Misreads}
use Rattle.fs_trait.specs.declared.types.FsErr.{FsErr}
use Rattle.fs_trait.specs.declared.types.FsErr.TheVariants as fs
use Rattle.fs_trait.specs.declared.types.Value.{Value}
use Rattle.fs_trait.specs.declared.types.Value.TheVariants.{Absent, File}
use Rattle.fs_trait.specs.Count.{Rose}
use Rattle.fs_trait.specs.View.{Disk}
use Rattle.fs_trait.specs.Seen.{Seen, Symlink, Leaf, shows}
use Rattle.repo_model.specs.Objects.{Stores, object_at, object_in, path_of}
use Rattle.obj_store.specs.declared.fault.LoadFault.{LoadFault}
use Rattle.obj_store.specs.declared.fault.LoadFault.TheVariants.{Fs, Damaged, NoMemory}
use Rattle.obj_store.specs.Lengths.{TellsLong}

-- whether something stands there
abbrev pub is_there : Value → Bool
is_there Absent = false
is_there x = true

-- A call that fails and want of memory have causes of their own, and no other refusal comes.
abbrev pub Looks : Disk → ObjName → Result Bool FsErr → Type 0
Looks d name (Ok there) = there ≡ is_there (d.at (path_of name))
Looks d name (Err fs.Failed) = Unit {0}
Looks d name (Err fs.NoMemory) = Unit {0}
Looks d name (Err e) = ⊥

-- The numbers have 32 bits, and no file has such attributes with such a body: its mode is another's, or it is a link that leads
-- nowhere.
abbrev pub IsOdd : Meta → Body → Type 0
IsOdd m body = IsHeader (header_of m body) × (IsFile (header_of m body) (bytes_of body) → ⊥)

abbrev pub IsMisfit : Seen → Type 0
IsMisfit (Leaf n m bytes) = IsOdd m (Regular bytes)
IsMisfit (Symlink m target) = IsOdd m (Link target)
IsMisfit s = ⊥

-- Something with the name is there, and doesn't read as its kind.
pub record IsMisread (d : Disk) (limit : ℕ) (name : ObjName) (e : ObjFault) : Type 0 where
  pub bytes : List ℕ
  pub stored : Stores d name bytes
  pub reads : Misreads name.kind limit bytes e
  pub cause : e ≢ read.NoMemory

-- What stands there has this sum, which isn't the one of the name.
pub record IsOther (d : Disk) (name : ObjName) (found : List ℕ) : Type 0 where
  pub bytes : List ℕ
  pub there : object_at d name ≡ Some bytes
  pub sum : found ≡ sha256 bytes
  pub other : found ≢ name.csum

-- The object is what the store has under its name. It comes back damaged exactly where something else stands at its path: another
-- object's bytes, some that don't read as its kind, or a file whose mode is no file's. No refusal of a call comes.
abbrev pub Loads : Disk → ObjName → ℕ → Result (Option Checked) LoadFault → Type 0
Loads d name limit (Ok None) = d.at (path_of name) ≡ Absent
Loads d name limit (Ok (Some c)) = (c.name ≡ name) × (c.limit ≡ limit) × Stores d name c.bytes
Loads d name limit (Err (Damaged (check.WrongSum found))) = IsOther d name found
Loads d name limit (Err (Damaged (check.Unreadable e))) = IsMisread d limit name e ⊎ ((e ≡ read.BadMode) × (name.kind ≡ kind.File) × IsMisfit (shows d (path_of name)))
Loads d name limit (Err (Damaged check.NoMemory)) = ⊥
Loads d name limit (Err (Fs fs.Failed)) = Unit {0}
Loads d name limit (Err (Fs fs.NoMemory)) = Unit {0}
Loads d name limit (Err (Fs e)) = ⊥
Loads d name limit (Err NoMemory) = Unit {0}

-- Each answer of the check of bytes: the object, or why they are none of this name.
abbrev pub ChecksAs : ObjName → ℕ → List ℕ → Result Checked LoadFault → Type 0
ChecksAs name limit bytes (Ok c) = (c.name ≡ name) × (c.bytes ≡ bytes) × (c.limit ≡ limit)
ChecksAs name limit bytes (Err (Damaged (check.WrongSum found))) = (found ≡ sha256 bytes) × (found ≢ name.csum)
ChecksAs name limit bytes (Err (Damaged (check.Unreadable e))) = IsNamed name bytes × (e ≢ read.NoMemory) × Misreads name.kind limit bytes e
ChecksAs name limit bytes (Err NoMemory) = Unit {0}
ChecksAs name limit bytes (Err e) = ⊥

abbrev pub fault_of : CheckFault → LoadFault
fault_of check.NoMemory = NoMemory
fault_of e = Damaged e

-- the bytes of what is shown as an object of the kind
abbrev pub Opens : Kind → Seen → Result (List ℕ) LoadFault → Type 0
Opens k s (Ok bytes) = object_in k s ≡ Some bytes
Opens k s (Err (Damaged (check.Unreadable read.BadMode))) = (k ≡ kind.File) × IsMisfit s
Opens k s (Err (Fs fs.Failed)) = Unit {0}
Opens k s (Err (Fs fs.NoMemory)) = Unit {0}
Opens k s (Err NoMemory) = Unit {0}
Opens k s (Err e) = ⊥

-- So of an object's path, where something may stand. A file there that is too long for an object isn't opened, and what is wrong with
-- it is told.
abbrev pub OpensAt : Disk → ObjName → Result (Option (List ℕ)) LoadFault → Type 0
OpensAt d name (Ok None) = d.at (path_of name) ≡ Absent
OpensAt d name (Ok (Some bytes)) = object_at d name ≡ Some bytes
OpensAt d name (Err e) = Opens name.kind (shows d (path_of name)) (Err e) ⊎ TellsLong d name e

-- a regular file with these attributes
abbrev pub IsRegular : Disk → Value → Meta → Type 0
IsRegular d (File n) m = d.meta n ≡ m
IsRegular d x m = ⊥

-- the stream of a file, where the mode fits
abbrev pub Streams : Meta → Body → Result (List ℕ) LoadFault → Type 0
Streams m body (Ok bytes) = content_form m body ≡ Some bytes
Streams m body (Err (Damaged (check.Unreadable read.BadMode))) = IsOdd m body
Streams m body (Err NoMemory) = Unit {0}
Streams m body (Err e) = ⊥

abbrev pub IsFailed : {T : Type 0} → Result T LoadFault → Type 0
IsFailed (Err (Fs fs.Failed)) = Unit {0}
IsFailed r = ⊥

-- `Failed` comes only where the count of faults rose, or stands at its last value
pub record HasCauseOf {T : Type 0} (before now : ℕ) (result : Result T LoadFault) : Type 0 where
  pub later : before ≤ now
  pub failed : IsFailed result → Rose before now
