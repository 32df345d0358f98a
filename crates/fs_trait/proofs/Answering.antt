-- From what a call answered to what a step's clauses say.
use Rattle.std.proofs.Common.{◌≡◌, sym, ◌∙◌, subst, Option, Some, None, Err}
use Rattle.std.specs.Prelude.{IsErrOf}
use Rattle.ost_types.specs.Path.{Path}
use Rattle.fs_trait.specs.declared.types.FsErr.{FsErr}
use Rattle.fs_trait.specs.declared.types.FsErr.TheVariants.{Failed, Exists, Missing, NotFolder, NotEmpty, NoMemory}
use Rattle.fs_trait.specs.View.{View}
use Rattle.fs_trait.specs.Image.{Told}
use Rattle.fs_trait.specs.Seen.{Seen}
use Rattle.fs_trait.specs.Effect.{Fails, Answered}
use Rattle.fs_trait.specs.Change.{Writes}
use Rattle.fs_trait.proofs.Facts.{Fails-writes}

-- a step whose call isn't refused: what it writes, and what is true after it
pub record Step (W : Path → Seen → Type 0) (After : View → Type 0) (v : View) (refusal : Option FsErr) (w : View) : Type 0 where
  pub free : refusal ≡ None
  pub writes : Writes W v w
  pub after : After w

not_refused : (e : FsErr) (refusal : Option FsErr) → refusal ≡ Some e → refusal ≡ None → ⊥
not_refused e refusal is free = let n : Some e ≡ None = sym is ∙ free in cc

module _ (W : Path → Seen → Type 0) (After : View → Type 0) (v : View) (refusal : Option FsErr) (w : View) (step : Step W After v refusal w) where
  pub ok_writes : (view : Option View) → (refusal ≡ None) × (view ≡ Some w) → Told view (λ x. Writes W v x)
  ok_writes view changed = (w, changed.1, step.writes)

  pub ok_after : (view : Option View) → (refusal ≡ None) × (view ≡ Some w) → Told view After
  ok_after view changed = (w, changed.1, step.after)

  pub err_writes : (e : FsErr) (view : Option View) → Fails refusal v w e view → Told view (λ x. Writes W v x)
  err_writes e view fails = Fails-writes W refusal v w e view fails step.writes

  pub err_fails : (R : FsErr → Type 0) → R Failed → R NoMemory → (e : FsErr) (view : Option View) → Fails refusal v w e view → R e
  err_fails R failed memory Failed view fails = failed
  err_fails R failed memory NoMemory view fails = memory
  err_fails R failed memory Exists view fails = absurd (not_refused Exists refusal fails.0 step.free)
  err_fails R failed memory Missing view fails = absurd (not_refused Missing refusal fails.0 step.free)
  err_fails R failed memory NotFolder view fails = absurd (not_refused NotFolder refusal fails.0 step.free)
  err_fails R failed memory NotEmpty view fails = absurd (not_refused NotEmpty refusal fails.0 step.free)

-- a call that wants for memory leaves the view as it was
pub err_unchanged : {T : Type 0} (refusal : Option FsErr) (v w : View) (e : FsErr) (view : Option View) → Fails refusal v w e view → IsErrOf {T = T} (Err e) NoMemory → view ≡ Some v
err_unchanged refusal v w e view fails is = let n : e ≡ NoMemory = cc in subst (λ x. Fails refusal v w x view) n fails

-- why a reading call that isn't refused isn't done
pub read_fails : {T : Type 0} (refusal : Option FsErr) (P : T → Type 0) (R : FsErr → Type 0) → refusal ≡ None → R Failed → R NoMemory → (e : FsErr) → Answered refusal P (Err e) → R e
read_fails refusal P R free failed memory Failed answer = failed
read_fails refusal P R free failed memory NoMemory answer = memory
read_fails refusal P R free failed memory Exists answer = absurd (not_refused Exists refusal answer free)
read_fails refusal P R free failed memory Missing answer = absurd (not_refused Missing refusal answer free)
read_fails refusal P R free failed memory NotFolder answer = absurd (not_refused NotFolder refusal answer free)
read_fails refusal P R free failed memory NotEmpty answer = absurd (not_refused NotEmpty refusal answer free)
