-- From what a call answered to what a clause says.
use Rattle.std.proofs.Common.{◌≡◌, sym, ◌∙◌, subst, Option, Some, None, Err}
use Rattle.std.specs.Prelude.{IsErrOf}
use Rattle.fs_trait.specs.declared.types.FsErr.{FsErr}
use Rattle.fs_trait.specs.declared.types.FsErr.TheVariants.{Failed, Exists, Missing, NotFolder, NotEmpty, NoMemory}
use Rattle.fs_trait.specs.View.{View}
use Rattle.fs_trait.specs.Effect.{Fails, Answered, OfNone, OfFinding, OfEmptying}

not_refused : (e : FsErr) (refusal : Option FsErr) → refusal ≡ Some e → refusal ≡ None → ⊥
not_refused e refusal is free = let n : Some e ≡ None = sym is ∙ free in cc

-- why a reading call that isn't refused isn't done
pub read_fails : {T : Type 0} (refusal : Option FsErr) (P : T → Type 0) → refusal ≡ None → (e : FsErr) → Answered refusal P (Err e) → OfNone e
read_fails refusal P free Failed answer = tt
read_fails refusal P free NoMemory answer = tt
read_fails refusal P free Exists answer = not_refused Exists refusal answer free
read_fails refusal P free Missing answer = not_refused Missing refusal answer free
read_fails refusal P free NotFolder answer = not_refused NotFolder refusal answer free
read_fails refusal P free NotEmpty answer = not_refused NotEmpty refusal answer free

-- the same of a changing call
pub call_fails : (refusal : Option FsErr) (v w : View) → refusal ≡ None → (e : FsErr) (view : Option View) → Fails refusal v w e view → OfNone e
call_fails refusal v w free Failed view fails = tt
call_fails refusal v w free NoMemory view fails = tt
call_fails refusal v w free Exists view fails = not_refused Exists refusal fails.0 free
call_fails refusal v w free Missing view fails = not_refused Missing refusal fails.0 free
call_fails refusal v w free NotFolder view fails = not_refused NotFolder refusal fails.0 free
call_fails refusal v w free NotEmpty view fails = not_refused NotEmpty refusal fails.0 free

-- one that wants for memory leaves the view as it was
pub call_unchanged : {T : Type 0} (refusal : Option FsErr) (v w : View) (e : FsErr) (view : Option View) → Fails refusal v w e view → IsErrOf {T = T} (Err e) NoMemory → view ≡ Some v
call_unchanged refusal v w e view fails is = let n : e ≡ NoMemory = cc in subst (λ x. Fails refusal v w x view) n fails

pub finding_emptying : (e : FsErr) → OfFinding e → OfEmptying e
finding_emptying Failed of = tt
finding_emptying NoMemory of = tt
finding_emptying Exists of = of
finding_emptying Missing of = tt
finding_emptying NotFolder of = tt
finding_emptying NotEmpty of = tt
