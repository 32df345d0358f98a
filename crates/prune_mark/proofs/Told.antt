-- From the reader of a kind to what is told of the object.
use Rattle.std.proofs.Common.{ℕ, List, Result, Ok, Err, inl}
use Rattle.ost_types.specs.declared.object.Kind.{Kind}
use Rattle.ost_forms.specs.declared.fault.ObjFault.{ObjFault}
use Rattle.ost_objects.specs.declared.fault.CheckFault.TheVariants as check
use Rattle.ost_objects.specs.Object.{Misreads}
use Rattle.fs_trait.specs.View.{Disk}
use Rattle.repo_model.specs.Objects.{Stores}
use Rattle.repo_model.specs.Trees.{name_of}
use Rattle.prune_mark.specs.declared.fault.MarkFault.{MarkFault}
use Rattle.prune_mark.specs.declared.fault.MarkFault.TheVariants as fault
use Rattle.prune_mark.specs.Reads.{Finds, ReadsAs}

module _ {T : Type 0} (d : Disk) (content : ℕ) (kind : Kind) (sum : List ℕ) (P Q : T → Type 0) (bytes : List ℕ) (stored : Stores d (name_of kind sum) bytes)
    (misread : (e : ObjFault) → Misreads kind 0 bytes e → Misreads kind content bytes e) (make : (x : T) → P x → Q x) where
  pub told : (r : Result T MarkFault) → ReadsAs kind sum bytes P r → Finds d content (name_of kind sum) Q r
  told (Ok x) reads = make x reads
  told (Err (fault.Absent o)) reads = absurd reads
  told (Err (fault.Damaged o)) reads = (reads.0, (check.Unreadable reads.1.0, inl (record { bytes = bytes; stored = stored; reads = misread reads.1.0 reads.1.1; cause = reads.1.2 })))
  told (Err (fault.Fs e)) reads = absurd reads
  told (Err fault.NoMemory) reads = tt
