-- From what was found of the list that boots to what an opening tells.
use Rattle.std.proofs.Common.{◌≡◌, ◌⊎◌, inl, inr, ℕ, refl, sym, ◌∙◌, ap, subst, [], Result, Err}
use Rattle.std.specs.Prelude.{IsErrOf}
use Rattle.ost_types.specs.declared.limits.Limits.{Limits}
use Rattle.fs_trait.specs.declared.types.FsErr.{FsErr}
use Rattle.fs_trait.specs.declared.types.FsErr.TheVariants as err
use Rattle.fs_trait.specs.Effect.{OfNone}
use Rattle.fs_trait.specs.View.{Disk}
use Rattle.boot_read.specs.declared.fault.ListFault.{ListFault}
use Rattle.boot_read.specs.declared.fault.ListFault.TheVariants as list
use Rattle.boot_read.specs.Faults as lists
use Rattle.sys_open.specs.declared.fault.OpenFault.{OpenFault}
use Rattle.sys_open.specs.declared.fault.OpenFault.TheVariants as fault
use Rattle.sys_open.specs.Damages.{BootList}
use Rattle.sys_open.specs.Faults.{HasReason, IsRefusal}
use Rattle.sys_open.specs.Opening.{ToldBy}
use Rattle.sys_open.specs.Stored.{IsListFault}

error_told : (T : Type 0) (limits : Limits) (d : Disk) (e : FsErr) (f : OpenFault) → OfNone e → IsRefusal [] e f → ToldBy {T = T} BootList limits d (Err f)
error_told T limits d err.Failed f named is = subst (λ x. ToldBy {T = T} BootList limits d (Err x)) (sym is) tt
error_told T limits d err.NoMemory f named is = subst (λ x. ToldBy {T = T} BootList limits d (Err x)) (sym is) tt
error_told T limits d err.Exists f named is = absurd named
error_told T limits d err.Missing f named is = absurd named
error_told T limits d err.NotFolder f named is = absurd named
error_told T limits d err.NotEmpty f named is = absurd named

pub list_told : (T : Type 0) (limits : Limits) (d : Disk) (found : ListFault) (f : OpenFault) → lists.IsFault d found → IsListFault found f → ToldBy {T = T} BootList limits d (Err f)
list_told T limits d (list.BadLink at) f first is = subst (λ x. ToldBy {T = T} BootList limits d (Err x)) (sym is) (record { fault = list.BadLink at; first = first; told = (refl, refl) })
list_told T limits d (list.TooMany at) f first is = subst (λ x. ToldBy {T = T} BootList limits d (Err x)) (sym is) (record { fault = list.TooMany at; first = first; told = (refl, refl) })
list_told T limits d (list.BadEntry at found) f first is = subst (λ x. ToldBy {T = T} BootList limits d (Err x)) (sym is) (record { fault = list.BadEntry at found; first = first; told = (refl, refl) })
list_told T limits d (list.NoDeployment at) f first is = subst (λ x. ToldBy {T = T} BootList limits d (Err x)) (sym is) (record { fault = list.NoDeployment at; first = first; told = (refl, refl) })
list_told T limits d (list.Fs e) f first is = error_told T limits d e f first is
list_told T limits d list.NoMemory f first is = subst (λ x. ToldBy {T = T} BootList limits d (Err x)) (sym is) tt

-- When a call is the reason.
abbrev err_of : (T : Type 0) → OpenFault → Result T OpenFault
err_of T f = Err f

abbrev err_list : (T : Type 0) → ListFault → Result T ListFault
err_list T f = Err f

told_disk : (T : Type 0) (f : OpenFault) → IsErrOf (err_of T f) fault.Disk → f ≡ fault.Disk
told_disk T f e = let n : err_of T f ≡ err_of T fault.Disk = e in cc

list_disk : (found : ListFault) (f : OpenFault) → IsListFault found f → f ≡ fault.Disk → found ≡ list.Fs err.Failed
list_disk (list.BadLink at) f is disk = let e : fault.Damaged _ _ ≡ fault.Disk = sym is ∙ disk in cc
list_disk (list.TooMany at) f is disk = let e : fault.Damaged _ _ ≡ fault.Disk = sym is ∙ disk in cc
list_disk (list.BadEntry at found) f is disk = let e : fault.Damaged _ _ ≡ fault.Disk = sym is ∙ disk in cc
list_disk (list.NoDeployment at) f is disk = let e : fault.Damaged _ _ ≡ fault.Disk = sym is ∙ disk in cc
list_disk (list.Fs e) f is disk = refused_disk e is
  where
    outside : {P : Type 0} → (f ≡ fault.Outside []) ⊎ (f ≡ fault.NoMemory) → P
    outside (inl o) = let e : fault.Outside [] ≡ fault.Disk = sym o ∙ disk in cc
    outside (inr o) = let e : fault.NoMemory ≡ fault.Disk = sym o ∙ disk in cc

    refused_disk : (e : FsErr) → IsRefusal [] e f → list.Fs e ≡ list.Fs err.Failed
    refused_disk err.Failed is = refl
    refused_disk err.NoMemory is = let e : fault.NoMemory ≡ fault.Disk = sym is ∙ disk in cc
    refused_disk err.Exists is = outside is
    refused_disk err.Missing is = outside is
    refused_disk err.NotFolder is = outside is
    refused_disk err.NotEmpty is = outside is
list_disk list.NoMemory f is disk = let e : fault.NoMemory ≡ fault.Disk = sym is ∙ disk in cc

pub list_reason : (T U : Type 0) (before now : ℕ) (found : ListFault) (f : OpenFault) → lists.HasCauseOf before now (err_list U found) → IsListFault found f → HasReason before now (err_of T f)
list_reason T U before now found f cause is = record { later = cause.later; disk = λ e. cause.failed (ap (err_list U) (list_disk found f is (told_disk T f e))) }
