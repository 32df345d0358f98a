-- What is told of one object that is to be looked into.
use Rattle.std.specs.Prelude.{◌≡◌, ◌≢◌, ◌≤◌, ℕ, List, Result, Ok, Err}
use Rattle.ost_types.specs.declared.object.Kind.{Kind}
use Rattle.ost_types.specs.declared.object.ObjName.{ObjName}
use Rattle.ost_forms.specs.declared.fault.ObjFault.{ObjFault}
use Rattle.ost_forms.specs.declared.fault.ObjFault.TheVariants as read
use Rattle.ost_forms.specs.Commit.{CommitParts, parent_bytes}
use Rattle.ost_objects.specs.Object.{Misreads}
use Rattle.fs_trait.specs.declared.types.FsErr.TheVariants as fs
use Rattle.fs_trait.specs.Count.{Rose}
use Rattle.fs_trait.specs.Effect.{OfNone}
use Rattle.fs_trait.specs.View.{Disk}
use Rattle.repo_model.specs.Trees.{name_of}
use Rattle.tree_read.specs.Looks.{IsAbsent, IsDamaged}
use Rattle.prune_mark.specs.declared.fault.MarkFault.{MarkFault}
use Rattle.prune_mark.specs.declared.fault.MarkFault.TheVariants as fault
use Rattle.prune_mark.specs.declared.links.Links.{Links}

-- the commit names these objects
pub record IsOf (c : CommitParts) (links : Links) : Type 0 where
  pub parent : c.parent ≡ parent_bytes links.parent
  pub tree : c.tree ≡ links.tree
  pub meta : c.meta ≡ links.meta

-- Each answer about an object, which has P where it is there. A call that fails and want of memory have causes of their own.
abbrev pub Finds : {T : Type 0} → Disk → ℕ → ObjName → (T → Type 0) → Result T MarkFault → Type 0
Finds d content name P (Ok x) = P x
Finds d content name P (Err (fault.Absent o)) = (o ≡ name) × IsAbsent d name
Finds d content name P (Err (fault.Damaged o)) = (o ≡ name) × IsDamaged d content name
Finds d content name P (Err (fault.Fs e)) = OfNone e
Finds d content name P (Err fault.NoMemory) = Unit {0}

-- Each answer of the reader of a kind over bytes that are there.
abbrev pub ReadsAs : {T : Type 0} → Kind → List ℕ → List ℕ → (T → Type 0) → Result T MarkFault → Type 0
ReadsAs kind sum bytes P (Ok x) = P x
ReadsAs kind sum bytes P (Err (fault.Absent o)) = ⊥
ReadsAs kind sum bytes P (Err (fault.Damaged o)) = (o ≡ name_of kind sum) × ((e : ObjFault) × Misreads kind 0 bytes e × (e ≢ read.NoMemory))
ReadsAs kind sum bytes P (Err (fault.Fs e)) = ⊥
ReadsAs kind sum bytes P (Err fault.NoMemory) = Unit {0}

abbrev pub IsFailed : {T : Type 0} → Result T MarkFault → Type 0
IsFailed (Err (fault.Fs fs.Failed)) = Unit {0}
IsFailed r = ⊥

-- A call failed only where the count of faults rose, or stands at its last value.
pub record HasCauseOf (before now : ℕ) (Failed : Type 0) : Type 0 where
  pub later : before ≤ now
  pub failed : Failed → Rose before now
