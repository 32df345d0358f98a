-- From the reader of a kind to what is told of the object.
use Rattle.std.proofs.Common.{◌≡◌, ℕ, List, Result, Ok, Err, inl, subst}
use Rattle.ost_types.specs.declared.object.ObjName.{ObjName}
use Rattle.ost_forms.specs.declared.fault.ObjFault.{ObjFault}
use Rattle.ost_objects.specs.declared.checked.Checked.{Checked}
use Rattle.ost_objects.specs.declared.fault.CheckFault.TheVariants as check
use Rattle.ost_objects.specs.Object.{Misreads}
use Rattle.fs_trait.specs.declared.types.FsErr.{FsErr}
use Rattle.fs_trait.specs.declared.types.FsErr.TheVariants as fs
use Rattle.fs_trait.specs.View.{Disk}
use Rattle.repo_model.specs.Objects.{Stores}
use Rattle.tree_read.specs.declared.looked.Looked.{Looked}
use Rattle.tree_read.specs.declared.looked.Looked.TheVariants.{Here, Absent, Damaged}
use Rattle.tree_read.specs.Looks.{IsAbsent, IsDamaged, Looks, Reads}

-- the object that was found
pub record IsFound (d : Disk) (content : ℕ) (name : ObjName) (o : Checked) : Type 0 where
  pub name_is : o.name ≡ name
  pub limit_is : o.limit ≡ content
  pub stored : Stores d name o.bytes

pub found : (d : Disk) (content : ℕ) (name : ObjName) (looked : Looked Checked) (o : Checked) → looked ≡ Here o
    → Looks d content name (λ (o : Checked). (o.name ≡ name) × (o.limit ≡ content) × Stores d name o.bytes) (Ok looked) → IsFound d content name o
found d content name looked o is told =
    let at = subst (λ l. Looks d content name (λ (o : Checked). (o.name ≡ name) × (o.limit ≡ content) × Stores d name o.bytes) (Ok l)) is told in
    record { name_is = at.0; limit_is = at.1; stored = at.2 }

module _ {T : Type 0} (d : Disk) (content at_most : ℕ) (name : ObjName) (P Q : T → Type 0) (bytes : List ℕ) (stored : Stores d name bytes)
    (misread : (e : ObjFault) → Misreads name.kind at_most bytes e → Misreads name.kind content bytes e) (make : (x : T) → P x → Q x) where
  pub told : (r : Result (Looked T) FsErr) → Reads name.kind at_most bytes P r → Looks d content name Q r
  told (Ok (Here x)) reads = make x reads
  told (Ok Absent) reads = absurd reads
  told (Ok Damaged) reads = (check.Unreadable reads.0, inl (record { bytes = bytes; stored = stored; reads = misread reads.0 reads.1; cause = reads.2 }))
  told (Err fs.NoMemory) reads = tt
  told (Err fs.Failed) reads = absurd reads
  told (Err fs.Exists) reads = absurd reads
  told (Err fs.Missing) reads = absurd reads
  told (Err fs.NotFolder) reads = absurd reads
  told (Err fs.NotEmpty) reads = absurd reads

-- what a look says by what was found
module _ {T : Type 0} (d : Disk) (content : ℕ) (name : ObjName) (P : T → Type 0) (looked : Looked T) where
  pub is_here : (x : T) → looked ≡ Here x → Looks d content name P (Ok looked) → P x
  is_here x is told = subst (λ l. Looks d content name P (Ok l)) is told

  pub is_absent : looked ≡ Absent → Looks d content name P (Ok looked) → IsAbsent d name
  is_absent is told = subst (λ l. Looks d content name P (Ok l)) is told

  pub is_damaged : looked ≡ Damaged → Looks d content name P (Ok looked) → IsDamaged d content name
  is_damaged is told = subst (λ l. Looks d content name P (Ok l)) is told
