-- What is told where a call answered an error.
use Rattle.std.proofs.Common.{◌≡◌, ◌≢◌, ◌≤◌, ℕ, sym, ◌∙◌, subst, List, Option, Some, None, Result, Ok, Err}
use Rattle.std.specs.Prelude.{IfErr}
use Rattle.ost_types.specs.Path.{Name, Path}
use Rattle.fs_trait.specs.declared.types.FsErr.{FsErr}
use Rattle.fs_trait.specs.declared.types.FsErr.TheVariants as err
use Rattle.fs_trait.specs.View.{Disk, View}
use Rattle.fs_trait.specs.Effect.{Answered, Fails, IsListing}
use Rattle.sys_open.specs.declared.fault.Why.{Why}
use Rattle.sys_open.specs.declared.fault.OpenFault.{OpenFault}
use Rattle.sys_open.specs.declared.fault.OpenFault.TheVariants as fault
use Rattle.sys_open.specs.Faults.{IsRefusal, IsInterruption, HasReason}
use Rattle.layout_rules.specs.Checks.{IsReached}
use Rattle.sys_open.specs.Walk.{AreReached, Looked, Walked}

not_refused : {A : Type 0} (e : FsErr) (refusal : Option FsErr) → refusal ≡ Some e → refusal ≡ None → A
not_refused e refusal is free = let n : Some e ≡ None = sym is ∙ free in cc

disk_interrupts : (at : Path) (f : OpenFault) → f ≡ fault.Disk → IsInterruption f
disk_interrupts at f e = subst IsInterruption (sym e) tt

memory_interrupts : (f : OpenFault) → f ≡ fault.NoMemory → IsInterruption f
memory_interrupts f e = subst IsInterruption (sym e) tt

-- a reading call that isn't refused fails, or wants for memory
pub read_interrupted : {T : Type 0} (refusal : Option FsErr) (P : T → Type 0) (at : Path) (e : FsErr) (f : OpenFault) → refusal ≡ None → Answered refusal P (Err e) → IsRefusal at e f → IsInterruption f
read_interrupted refusal P at err.Failed f free answer is = disk_interrupts at f is
read_interrupted refusal P at err.NoMemory f free answer is = memory_interrupts f is
read_interrupted refusal P at err.Exists f free answer is = not_refused err.Exists refusal answer free
read_interrupted refusal P at err.Missing f free answer is = not_refused err.Missing refusal answer free
read_interrupted refusal P at err.NotFolder f free answer is = not_refused err.NotFolder refusal answer free
read_interrupted refusal P at err.NotEmpty f free answer is = not_refused err.NotEmpty refusal answer free

-- and so a changing one
pub call_interrupted : (refusal : Option FsErr) (v w : View) (at : Path) (e : FsErr) (view : Option View) (f : OpenFault) → refusal ≡ None → Fails refusal v w e view → IsRefusal at e f → IsInterruption f
call_interrupted refusal v w at err.Failed view f free fails is = disk_interrupts at f is
call_interrupted refusal v w at err.NoMemory view f free fails is = memory_interrupts f is
call_interrupted refusal v w at err.Exists view f free fails is = not_refused err.Exists refusal fails.0 free
call_interrupted refusal v w at err.Missing view f free fails is = not_refused err.Missing refusal fails.0 free
call_interrupted refusal v w at err.NotFolder view f free fails is = not_refused err.NotFolder refusal fails.0 free
call_interrupted refusal v w at err.NotEmpty view f free fails is = not_refused err.NotEmpty refusal fails.0 free

pub interrupted_look : (T : Type 0) (So : Type 0) (why : Why) (at : Path) (f : OpenFault) → IsInterruption f → Looked {T = T} So why at (Err f)
interrupted_look T So why at fault.Disk is = tt
interrupted_look T So why at fault.NoMemory is = tt
interrupted_look T So why at (fault.Damaged p y) is = absurd is
interrupted_look T So why at (fault.Outside p) is = absurd is

pub interrupted_walk : (T : Type 0) (So : Path → Type 0) (why : Why) (at : Path) (f : OpenFault) → IsInterruption f → Walked {T = T} So why at (Err f)
interrupted_walk T So why at fault.Disk is = tt
interrupted_walk T So why at fault.NoMemory is = tt
interrupted_walk T So why at (fault.Damaged p y) is = absurd is
interrupted_walk T So why at (fault.Outside p) is = absurd is

-- what is told of one thing is told of another that is so exactly where this one is
pub look_same : {T : Type 0} (A B : Type 0) (why : Why) (at : Path) (r : Result T OpenFault) → (A → B) → (B → A) → Looked A why at r → Looked B why at r
look_same A B why at (Ok x) to from looked = to looked
look_same A B why at (Err fault.Disk) to from looked = tt
look_same A B why at (Err fault.NoMemory) to from looked = tt
look_same A B why at (Err (fault.Damaged p y)) to from looked = (looked.0, looked.1, λ b. looked.2 (from b))
look_same A B why at (Err (fault.Outside p)) to from looked = looked

pub listed_look : {T : Type 0} (d : Disk) (at : Path) (names : List Name) (why : Why) (r : Result T OpenFault) → IsListing d at names → Looked (AreReached at names) why at r → Looked (IsReached d at) why at r
listed_look d at names why r listing looked = look_same (AreReached at names) (IsReached d at) why at r (λ all x there. all x (listing.all x there)) (λ all x has. all x (listing.there x has)) looked

-- what makes no call doesn't tell that one failed
abbrev err_of : (T : Type 0) → OpenFault → Result T OpenFault
err_of T f = Err f

pub no_reason : (T : Type 0) (before now : ℕ) (r : Result T OpenFault) → before ≤ now → IfErr r (λ e. e ≢ fault.Disk) → HasReason before now r
no_reason T before now (Ok x) le none = record { later = le; disk = λ e. let n : Ok x ≡ err_of T fault.Disk = e in cc }
no_reason T before now (Err f) le none = record { later = le; disk = λ e. absurd (none (let n : err_of T f ≡ err_of T fault.Disk = e in cc)) }
