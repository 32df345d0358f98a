-- From what the calls of a step answered to what it says of a told view.
use Rattle.std.proofs.Common.{◌≡◌, Option, Some, None, Result, Ok, Err, sym, subst}
use Rattle.std.specs.Prelude.{IsErrOf}
use Rattle.fs_trait.specs.declared.types.FsErr.{FsErr}
use Rattle.fs_trait.specs.declared.types.FsErr.TheVariants.{NoMemory}
use Rattle.fs_trait.specs.declared.task.StepResult.{StepResult}
use Rattle.fs_trait.specs.View.{View}
use Rattle.fs_trait.specs.Effect.{Fails, OfNone}
use Rattle.fs_trait.proofs.Answering.{Step, err_fails, err_unchanged, err_writes, ok_after, ok_writes}
use Rattle.fs_trait.proofs.Kept.{same_view}
use Rattle.host_edit.specs.declared.refusal.EditRefusal.{EditRefusal}
use Rattle.host_edit.specs.Editing.{Editing}
use Rattle.host_edit.specs.Steps.{IsToldStep, Needs, Tells, WritesOf, goes_on}
use Rattle.host_edit.specs.declared.phase.Phase.{Phase}
use Rattle.fs_trait.specs.declared.task.StepResult.TheVariants.{More}

abbrev Turn : Type 0
Turn = StepResult (Result (Unit {0}) EditRefusal)

not_err : (turn : Turn) → IsErrOf {T = Turn} (Ok turn) NoMemory → ⊥
not_err turn is = let n : Ok turn ≡ Err NoMemory = is in cc

-- the task as it is, and as its caller saw it
told_as : (t u new : Editing) → t ≡ u → (v : View) (r : Result Turn FsErr) (view : Option View) → IsToldStep t new v r view → IsToldStep u new v r view
told_as t u new same v r view told = subst (λ a. IsToldStep a new v r view) same told

module _ (t u : Editing) (same : t ≡ u) (v : View) where
  -- a call that was done
  pub told_ok : (new : Editing) (refusal : Option FsErr) (w : View) → Step (WritesOf t v) (Needs new) v refusal w → (turn : Turn) → Tells t v turn
      → (view : Option View) → (refusal ≡ None) × (view ≡ Some w) → IsToldStep u new v (Ok turn) view
  told_ok new refusal w step turn tells view done = told_as t u new same v (Ok turn) view (record {
    writes = ok_writes (WritesOf t v) (Needs new) v refusal w step view done;
    after = ok_after (WritesOf t v) (Needs new) v refusal w step view done;
    tells = tells;
    fails = tt;
    unchanged = λ is. absurd (not_err turn is);
  })

  pub told_more : (new : Editing) (refusal : Option FsErr) (w : View) → Step (WritesOf t v) (Needs new) v refusal w → (ph : Phase) → t.phase ≡ ph → goes_on ph t v
      → (view : Option View) → (refusal ≡ None) × (view ≡ Some w) → IsToldStep u new v (Ok More) view
  told_more new refusal w step ph is on view done = told_ok new refusal w step More (subst (λ f. goes_on f t v) (sym is) on) view done

  -- one that wasn't
  pub told_err : (After : View → Type 0) (refusal : Option FsErr) (w : View) → Step (WritesOf t v) After v refusal w → (e : FsErr) (view : Option View) → Fails refusal v w e view → IsToldStep u u v (Err e) view
  told_err After refusal w step e view fails = told_as t u u same v (Err e) view (record {
    writes = err_writes (WritesOf t v) After v refusal w step e view fails;
    after = tt;
    tells = tt;
    fails = err_fails (WritesOf t v) After v refusal w step OfNone tt tt e view fails;
    unchanged = λ is. err_unchanged {T = Turn} refusal v w e view fails is;
  })

  -- none
  pub told_still : (new : Editing) → Needs new v → (turn : Turn) → Tells t v turn → (view : Option View) → view ≡ Some v → IsToldStep u new v (Ok turn) view
  told_still new after turn tells view is = told_as t u new same v (Ok turn) view (record {
    writes = (v, is, same_view (WritesOf t v) v);
    after = (v, is, after);
    tells = tells;
    fails = tt;
    unchanged = λ e. absurd (not_err turn e);
  })

  pub told_on : (new : Editing) → Needs new v → (ph : Phase) → t.phase ≡ ph → goes_on ph t v → (view : Option View) → view ≡ Some v → IsToldStep u new v (Ok More) view
  told_on new after ph is on view still = told_still new after More (subst (λ f. goes_on f t v) (sym is) on) view still
