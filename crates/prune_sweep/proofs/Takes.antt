-- What an unlink takes.
use Rattle.std.proofs.Common.{◌≡◌, ◌≢◌, inr, ◌<◌, [], List, length, get_or, Option, Result, Ok, Err, refl, sym, ◌∙◌, ap, subst}
use Rattle.std.specs.Prelude.{map}
use Rattle.std.proofs.lemmas.List.{get_or-map, get_or_default}
use Rattle.ost_types.specs.declared.object.Kind.TheVariants as kind
use Rattle.ost_types.specs.declared.object.ObjName.{ObjName}
use Rattle.ost_types.specs.Path.{Path}
use Rattle.fs_trait.specs.declared.types.FsErr.{FsErr}
use Rattle.fs_trait.specs.declared.types.FsErr.TheVariants.{Failed, Exists, Missing, NotFolder, NotEmpty, NoMemory}
use Rattle.fs_trait.specs.declared.types.Value.TheVariants.{Absent}
use Rattle.fs_trait.specs.Effect.{Changed, Fails, no_leaf}
use Rattle.fs_trait.specs.View.{View, named}
use Rattle.repo_model.specs.Objects.{path_of}
use Rattle.prune_sweep.specs.Steps.{TakesMark, TakesObject}
use Rattle.prune_sweep.specs.Sweeping.{Sweeping}

-- the path at the place of the next object is its own
pub taken_object : {T : Type 0} (r : Sweeping) (paths : List Path) (p : Path) (v : View) (result : Result T FsErr) (new : Option View) → paths ≡ map path_of r.removed → r.gone < length r.removed → get_or paths r.gone p ≡ p
    → Changed (no_leaf p v.now) v (named p Absent v) result new → TakesObject r v result new
taken_object {T} r paths p v result new are less at changed =
    (next, (less, get_or_default r.removed r.gone next none less), subst (λ q. Changed {T = T} (no_leaf q v.now) v (named q Absent v) result new) is changed)
  where
    none : ObjName
    none = record { csum = []; kind = kind.Commit }

    next : ObjName
    next = get_or r.removed r.gone none

    is : p ≡ path_of next
    is = sym at ∙ ap (λ l. get_or l r.gone p) are ∙ get_or-map path_of r.removed r.gone none p less

-- a mark that is away is as good as taken
pub taken_unless : (p : Path) (v : View) (e : FsErr) (r : Result (Unit {0}) FsErr) (new : Option View) → (e ≡ Missing → r ≡ Ok tt) → ((e ≢ Missing) → r ≡ Err e) → Fails (no_leaf p v.now) v (named p Absent v) e new → TakesMark p v r new
taken_unless p v Missing r new away other fails = subst (λ (x : Result (Unit {0}) FsErr). TakesMark p v x new) (sym (away refl)) (inr fails)
taken_unless p v Failed r new away other fails = subst (λ (x : Result (Unit {0}) FsErr). TakesMark p v x new) (sym (other (λ e. let n : Failed ≡ Missing = e in cc))) fails
taken_unless p v NoMemory r new away other fails = subst (λ (x : Result (Unit {0}) FsErr). TakesMark p v x new) (sym (other (λ e. let n : NoMemory ≡ Missing = e in cc))) fails
taken_unless p v NotFolder r new away other fails = subst (λ (x : Result (Unit {0}) FsErr). TakesMark p v x new) (sym (other (λ e. let n : NotFolder ≡ Missing = e in cc))) fails
taken_unless p v NotEmpty r new away other fails = subst (λ (x : Result (Unit {0}) FsErr). TakesMark p v x new) (sym (other (λ e. let n : NotEmpty ≡ Missing = e in cc))) fails
taken_unless p v Exists r new away other fails = subst (λ (x : Result (Unit {0}) FsErr). TakesMark p v x new) (sym (other (λ e. let n : Exists ≡ Missing = e in cc))) fails
