-- From what the checks of objects and commits found to what an opening tells.
use Rattle.std.proofs.Common.{◌≡◌, ◌⊎◌, inl, inr, ⊎_elim, ℕ, refl, sym, ◌∙◌, subst, List, [], Result, Ok, Err}
use Rattle.std.specs.Prelude.{IsErrOf}
use Rattle.ost_types.specs.declared.limits.Limits.{Limits}
use Rattle.ost_types.specs.declared.object.ObjName.{ObjName}
use Rattle.fs_trait.specs.declared.types.FsErr.{FsErr}
use Rattle.fs_trait.specs.declared.types.FsErr.TheVariants as err
use Rattle.fs_trait.specs.Effect.{OfNone}
use Rattle.fs_trait.specs.View.{Disk}
use Rattle.rely_guarantee.specs.State.{first}
use Rattle.rely_guarantee.specs.Disks.{Logical}
use Rattle.store_check.specs.declared.fault.ObjectsFault.{ObjectsFault}
use Rattle.store_check.specs.declared.fault.ObjectsFault.TheVariants as objects
use Rattle.store_check.specs.declared.fault.CommitsFault.{CommitsFault}
use Rattle.store_check.specs.declared.fault.CommitsFault.TheVariants as commits
use Rattle.store_check.specs.Faults.{CommitsFailed, FailedBy, HasCauseOf}
use Rattle.store_check.specs.Objects.{AreSound, ChecksObjects}
use Rattle.store_check.specs.Refs.{ChecksCommits, Ref}
use Rattle.sys_open.specs.declared.fault.Why.TheVariants as why
use Rattle.sys_open.specs.declared.fault.OpenFault.{OpenFault}
use Rattle.sys_open.specs.declared.fault.OpenFault.TheVariants as fault
use Rattle.sys_open.specs.Damages.{Commits, Objects, Passes}
use Rattle.sys_open.specs.Faults.{HasReason, IsRefusal}
use Rattle.sys_open.specs.Opening.{AreAscending, ToldBy}
use Rattle.sys_open.specs.Stored.{IsCommitsFault, IsObjectsFault, LooksAtCommits, ToldOfStore}
use Rattle.sys_open.proofs.RefLists.{all_founded, first_unfounded}

-- the objects
pub sound_passes : (limits : Limits) (d : Disk) (names : List ObjName) → AreSound d limits names → Passes Objects limits d
sound_passes limits d names sound = (record { names = names; are = sound.all; few = sound.few }, sound.sound)

error_told : (T : Type 0) (limits : Limits) (d : Disk) (e : FsErr) (f : OpenFault) → OfNone e → IsRefusal [] e f → ToldBy {T = T} Objects limits d (Err f)
error_told T limits d err.Failed f named is = subst (λ x. ToldBy {T = T} Objects limits d (Err x)) (sym is) tt
error_told T limits d err.NoMemory f named is = subst (λ x. ToldBy {T = T} Objects limits d (Err x)) (sym is) tt
error_told T limits d err.Exists f named is = absurd named
error_told T limits d err.Missing f named is = absurd named
error_told T limits d err.NotFolder f named is = absurd named
error_told T limits d err.NotEmpty f named is = absurd named

memory_told : (T : Type 0) (limits : Limits) (d : Disk) (f : OpenFault) → f ≡ fault.NoMemory → ToldBy {T = T} Objects limits d (Err f)
memory_told T limits d f is = subst (λ x. ToldBy {T = T} Objects limits d (Err x)) (sym is) tt

pub objects_told : (T : Type 0) (limits : Limits) (d : Disk) (found : ObjectsFault) (f : OpenFault) → ChecksObjects d limits (Err found) → IsObjectsFault found f → ToldBy {T = T} Objects limits d (Err f)
objects_told T limits d (objects.TooMany n) f checked (inl is) = subst (λ x. ToldBy {T = T} Objects limits d (Err x)) (sym is) (inl (record { told = subst (λ k. why.TooMany n ≡ why.TooMany k) checked.0 refl; path = refl; more = checked.1 }))
objects_told T limits d (objects.TooMany n) f checked (inr is) = memory_told T limits d f is
objects_told T limits d (objects.Damaged name found) f checked (inl is) = subst (λ x. ToldBy {T = T} Objects limits d (Err x)) (sym is) (inr (record { name = name; fault = found; told = refl; path = refl; few = checked.0; first = checked.1 }))
objects_told T limits d (objects.Damaged name found) f checked (inr is) = memory_told T limits d f is
objects_told T limits d (objects.Fs e) f checked is = error_told T limits d e f checked is
objects_told T limits d objects.NoMemory f checked is = memory_told T limits d f is

-- the commits and refs
error_looked : (T : Type 0) (limits : Limits) (d : Disk) (refs : List Ref) (e : FsErr) (f : OpenFault) → OfNone e → IsRefusal [] e f → LooksAtCommits {T = T} limits d refs (Err f)
error_looked T limits d refs err.Failed f named is = subst (λ x. LooksAtCommits {T = T} limits d refs (Err x)) (sym is) tt
error_looked T limits d refs err.NoMemory f named is = subst (λ x. LooksAtCommits {T = T} limits d refs (Err x)) (sym is) tt
error_looked T limits d refs err.Exists f named is = absurd named
error_looked T limits d refs err.Missing f named is = absurd named
error_looked T limits d refs err.NotFolder f named is = absurd named
error_looked T limits d refs err.NotEmpty f named is = absurd named

pub commits_looked : (T : Type 0) (limits : Limits) (d : Disk) (refs : List Ref) (found : CommitsFault) (f : OpenFault) → ChecksCommits d limits refs (Err found) → IsCommitsFault found f → LooksAtCommits {T = T} limits d refs (Err f)
commits_looked T limits d refs (commits.Incomplete p object) f checked is = subst (λ x. LooksAtCommits {T = T} limits d refs (Err x)) (sym is) checked
commits_looked T limits d refs (commits.Fs e) f checked is = error_looked T limits d refs e f checked is
commits_looked T limits d refs commits.NoMemory f checked is = subst (λ x. LooksAtCommits {T = T} limits d refs (Err x)) (sym is) tt

-- Both, one after the other.
pub objects_fault : (T U : Type 0) (limits : Limits) (d : Disk) (f : OpenFault) → ToldBy {T = T} Objects limits d (Err f) → ToldOfStore {T = U} limits d (Err f)
objects_fault T U limits d fault.Disk told = tt
objects_fault T U limits d fault.NoMemory told = tt
objects_fault T U limits d (fault.Outside p) told = told
objects_fault T U limits d (fault.Damaged p y) told = inl told

module _ (limits : Limits) (d : Disk) (refs : List Ref) (ascending : AreAscending refs) (logical : Logical d (first refs)) (sound : Passes Objects limits d) where
  pub commits_fault : (T U : Type 0) (f : OpenFault) → LooksAtCommits {T = T} limits d refs (Err f) → ToldOfStore {T = U} limits d (Err f)
  commits_fault T U fault.Disk told = tt
  commits_fault T U fault.NoMemory told = tt
  commits_fault T U (fault.Outside p) told = told
  commits_fault T U (fault.Damaged p (why.Incomplete object)) told = inr (
    sound,
    record {
      object = object;
      told = refl;
      first = ⊎_elim (λ one. inl one) (λ w. inr (w.0, first_unfounded d refs ascending logical p object w.1)) told;
    },
  )
  commits_fault T U (fault.Damaged p why.BadConfig) told = absurd told
  commits_fault T U (fault.Damaged p why.BadRef) told = absurd told
  commits_fault T U (fault.Damaged p (why.BadObject found)) told = absurd told
  commits_fault T U (fault.Damaged p (why.TooMany n)) told = absurd told
  commits_fault T U (fault.Damaged p why.WrongKind) told = absurd told
  commits_fault T U (fault.Damaged p why.BadLink) told = absurd told
  commits_fault T U (fault.Damaged p (why.BadEntry found)) told = absurd told
  commits_fault T U (fault.Damaged p why.NoDeployment) told = absurd told
  commits_fault T U (fault.Damaged p why.NotCheckout) told = absurd told
  commits_fault T U (fault.Damaged p why.KernelCopy) told = absurd told

  pub store_passes : (T : Type 0) (x : T) → LooksAtCommits limits d refs (Ok x) → Passes Objects limits d × Passes Commits limits d
  store_passes T x told = (sound, (told.0, all_founded d refs ascending logical told.1))

-- When a call is the reason.
abbrev err_of : (T : Type 0) → OpenFault → Result T OpenFault
err_of T f = Err f

told_disk : (T : Type 0) (f : OpenFault) → IsErrOf (err_of T f) fault.Disk → f ≡ fault.Disk
told_disk T f e = let n : err_of T f ≡ err_of T fault.Disk = e in cc

objects_disk : (found : ObjectsFault) (f : OpenFault) → IsObjectsFault found f → f ≡ fault.Disk → FailedBy found
objects_disk (objects.TooMany n) f (inl is) disk = let e : fault.Damaged _ _ ≡ fault.Disk = sym is ∙ disk in cc
objects_disk (objects.TooMany n) f (inr is) disk = let e : fault.NoMemory ≡ fault.Disk = sym is ∙ disk in cc
objects_disk (objects.Damaged name found) f (inl is) disk = let e : fault.Damaged _ _ ≡ fault.Disk = sym is ∙ disk in cc
objects_disk (objects.Damaged name found) f (inr is) disk = let e : fault.NoMemory ≡ fault.Disk = sym is ∙ disk in cc
objects_disk (objects.Fs e) f is disk = refused_disk e is
  where
    outside : {P : Type 0} → (f ≡ fault.Outside []) ⊎ (f ≡ fault.NoMemory) → P
    outside (inl o) = let e : fault.Outside [] ≡ fault.Disk = sym o ∙ disk in cc
    outside (inr o) = let e : fault.NoMemory ≡ fault.Disk = sym o ∙ disk in cc

    refused_disk : (e : FsErr) → IsRefusal [] e f → FailedBy (objects.Fs e)
    refused_disk err.Failed is = tt
    refused_disk err.NoMemory is = let e : fault.NoMemory ≡ fault.Disk = sym is ∙ disk in cc
    refused_disk err.Exists is = outside is
    refused_disk err.Missing is = outside is
    refused_disk err.NotFolder is = outside is
    refused_disk err.NotEmpty is = outside is
objects_disk objects.NoMemory f is disk = let e : fault.NoMemory ≡ fault.Disk = sym is ∙ disk in cc

pub objects_reason : (T : Type 0) (before now : ℕ) (found : ObjectsFault) (f : OpenFault) → HasCauseOf before now (FailedBy found) → IsObjectsFault found f → HasReason before now (err_of T f)
objects_reason T before now found f cause is = record { later = cause.later; disk = λ e. cause.failed (objects_disk found f is (told_disk T f e)) }

commits_disk : (U : Type 0) (found : CommitsFault) (f : OpenFault) → IsCommitsFault found f → f ≡ fault.Disk → CommitsFailed {T = U} (Err found)
commits_disk U (commits.Incomplete p object) f is disk = let e : fault.Damaged p (why.Incomplete object) ≡ fault.Disk = sym is ∙ disk in cc
commits_disk U (commits.Fs e) f is disk = refused_disk e is
  where
    outside : {P : Type 0} → (f ≡ fault.Outside []) ⊎ (f ≡ fault.NoMemory) → P
    outside (inl o) = let e : fault.Outside [] ≡ fault.Disk = sym o ∙ disk in cc
    outside (inr o) = let e : fault.NoMemory ≡ fault.Disk = sym o ∙ disk in cc

    refused_disk : (e : FsErr) → IsRefusal [] e f → CommitsFailed {T = U} (Err (commits.Fs e))
    refused_disk err.Failed is = tt
    refused_disk err.NoMemory is = let e : fault.NoMemory ≡ fault.Disk = sym is ∙ disk in cc
    refused_disk err.Exists is = outside is
    refused_disk err.Missing is = outside is
    refused_disk err.NotFolder is = outside is
    refused_disk err.NotEmpty is = outside is
commits_disk U commits.NoMemory f is disk = let e : fault.NoMemory ≡ fault.Disk = sym is ∙ disk in cc

pub commits_reason : (T U : Type 0) (before now : ℕ) (found : CommitsFault) (f : OpenFault) → HasCauseOf before now (CommitsFailed {T = U} (Err found)) → IsCommitsFault found f → HasReason before now (err_of T f)
commits_reason T U before now found f cause is = record { later = cause.later; disk = λ e. cause.failed (commits_disk U found f is (told_disk T f e)) }
