-- Files that are longer than an object of their kind may be.
use Rattle.std.specs.Prelude.{◌≡◌, ◌≢◌, ◌<◌, ℕ, List, length, Some}
use Rattle.sha2.specs.Sha256.{sha256}
use Rattle.ost_types.specs.declared.meta.Meta.{Meta}
use Rattle.ost_types.specs.declared.object.Kind.{Kind}
use Rattle.ost_types.specs.declared.object.Kind.TheVariants as kind
use Rattle.ost_types.specs.declared.object.ObjName.{ObjName}
use Rattle.ost_forms.specs.DirMeta.{object_limit}
use Rattle.ost_forms.specs.declared.fault.ObjFault.TheVariants as read
use Rattle.ost_objects.specs.declared.fault.CheckFault.TheVariants as check
use Rattle.ost_objects.specs.Object.{IsNamed}
use Rattle.fs_trait.specs.declared.types.Node.{Node}
use Rattle.fs_trait.specs.declared.types.Node.TheVariants as node
use Rattle.fs_trait.specs.declared.types.Value.{Value}
use Rattle.fs_trait.specs.declared.types.Value.TheVariants.{File}
use Rattle.fs_trait.specs.View.{Disk}
use Rattle.repo_model.specs.Objects.{object_at}
use Rattle.obj_store.specs.declared.fault.LoadFault.{LoadFault}
use Rattle.obj_store.specs.declared.fault.LoadFault.TheVariants.{Damaged}

-- more bytes than an object of the kind may have; a file's object has another bound
abbrev pub IsTooLong : Kind → ℕ → Type 0
IsTooLong k len = (k ≢ kind.File) × (object_limit < len)

-- a look told a file of this length
abbrev pub IsFileOf : Node → ℕ → Type 0
IsFileOf x len = (m : Meta) × (x ≡ node.File m len)

-- what a look told isn't too long
abbrev pub FitsIn : Kind → Node → Type 0
FitsIn k x = (len : ℕ) → IsFileOf x len → IsTooLong k len → ⊥

-- a file of this length
abbrev pub HasLength : Disk → Value → ℕ → Type 0
HasLength d (File n) len = length (d.bytes n) ≡ len
HasLength d x len = ⊥

-- These bytes stand at the object's path, and are too many.
pub record IsLong (d : Disk) (name : ObjName) (bytes : List ℕ) : Type 0 where
  pub there : object_at d name ≡ Some bytes
  pub long : IsTooLong name.kind (length bytes)

-- What is told of them: another sum than the name's; or that they have the name, and how many they are.
abbrev pub TellsLong : Disk → ObjName → LoadFault → Type 0
TellsLong d name (Damaged (check.WrongSum found)) = (bytes : List ℕ) × IsLong d name bytes × (found ≡ sha256 bytes) × (found ≢ name.csum)
TellsLong d name (Damaged (check.Unreadable (read.TooLarge n))) = (bytes : List ℕ) × IsLong d name bytes × IsNamed name bytes × (n ≡ length bytes)
TellsLong d name e = ⊥
