-- From what the calls of a step answered to what it says of a told view.
use Rattle.std.proofs.Common.{◌≡◌, inl, inr, Option, Some, Result, Ok, Err, refl, sym, subst, List, true, false}
use Rattle.std.specs.Prelude.{IsErrOf}
use Rattle.fs_trait.specs.declared.types.FsErr.{FsErr}
use Rattle.fs_trait.specs.declared.types.FsErr.TheVariants.{NoMemory}
use Rattle.fs_trait.specs.declared.task.StepResult.TheVariants.{More, Done}
use Rattle.fs_trait.specs.View.{Disk, View}
use Rattle.fs_trait.specs.Image.{EachImage}
use Rattle.fs_trait.proofs.Kept.{same_view}
use Rattle.boot_model.specs.declared.item.DepId.{DepId}
use Rattle.boot_model.specs.declared.item.BootItem.{BootItem}
use Rattle.tree_read.specs.Reading.{unread}
use Rattle.deploy_task.specs.declared.refusal.DeployRefusal.{DeployRefusal}
use Rattle.deploy_task.specs.declared.refusal.DeployRefusal.TheVariants as refusal
use Rattle.deploy_task.specs.declared.phase.Phase.{Phase}
use Rattle.deploy_task.specs.declared.phase.Phase.TheVariants.{Choose, Source, BeginBuild, Ended}
use Rattle.deploy_task.specs.Listed.{NoneOf, ids_in}
use Rattle.deploy_task.specs.Deploying.{Deploying, HasPlace, IsSourceOf, IsStepped, Turn, in_phase, items_of, new_items, steps_in}
use Rattle.deploy_task.specs.Lists.{Leaves, SameListOf}
use Rattle.deploy_task.specs.Steps.{IsToldStep, Needs, Tells, WritesOf, needs_in, refuses_in, tells_in}
use Rattle.deploy_task.proofs.Making.{made_with}

-- ---- a step that changes nothing

same_list : (ids : List DepId) (d : Disk) → SameListOf ids d d
same_list ids d = record {
  loader = refl;
  version = λ loader selects. record { entries = λ file. refl; link = refl; links = λ sub rest small link. refl; deployments = λ id among. refl };
}

pub leaves_still : (old new : List BootItem) (v : View) → EachImage v (Leaves old new v)
leaves_still old new v d image = inl (d, image, same_list (ids_in old) d)

pub not_err : (turn : Turn) → IsErrOf {T = Turn} (Ok turn) NoMemory → ⊥
not_err turn is = let n : Ok turn ≡ Err NoMemory = is in cc

pub told_more : (old new : Deploying) (v : View) (view : Option View) → view ≡ Some v → Needs new v → Tells old new v More → IsToldStep old new v (Ok More) view
told_more old new v view is after tells = record {
  writes = (v, is, same_view (WritesOf old v) v);
  leaves = (v, is, leaves_still (items_of old.plan) (new_items old.plan old.id old.kept) v);
  after = (v, is, after);
  tells = tells;
  done = tt;
  fails = tt;
  unchanged = λ e. absurd (not_err More e);
}

pub told_refused : (old new : Deploying) (v : View) (why : DeployRefusal) (view : Option View) → view ≡ Some v → Needs new v → Tells old new v (Done (Err why)) → IsToldStep old new v (Ok (Done (Err why))) view
told_refused old new v why view is after tells = record {
  writes = (v, is, same_view (WritesOf old v) v);
  leaves = (v, is, leaves_still (items_of old.plan) (new_items old.plan old.id old.kept) v);
  after = (v, is, after);
  tells = tells;
  done = tt;
  fails = tt;
  unchanged = λ e. absurd (not_err (Done (Err why)) e);
}

pub told_error : (old new : Deploying) (v : View) (e : FsErr) (view : Option View) → view ≡ Some v → refuses_in old.phase v e → IsToldStep old new v (Err e) view
told_error old new v e view is fails = record {
  writes = (v, is, same_view (WritesOf old v) v);
  leaves = (v, is, leaves_still (items_of old.plan) (new_items old.plan old.id old.kept) v);
  after = tt;
  tells = tt;
  done = tt;
  fails = fails;
  unchanged = λ same. is;
}

-- of a task that is the same
pub told_as : (t u new got : Deploying) → t ≡ u → new ≡ got → (v : View) (r : Result Turn FsErr) (view : Option View) → IsToldStep t new v r view → IsToldStep u got v r view
told_as t u new got same is v r view told = subst (λ x. IsToldStep x got v r view) same (subst (λ x. IsToldStep t x v r view) is told)

-- where the view wasn't touched
pub told_here : (old new : Deploying) (v : View) (r : Result Turn FsErr) (view : Option View) → view ≡ Some v → IsToldStep old new v r (Some v) → IsToldStep old new v r view
told_here old new v r view is told = subst (λ x. IsToldStep old new v r x) (sym is) told

-- once the task has ended
pub told_ended : (t : Deploying) → t.phase ≡ Ended → (v : View) → Needs t v → (view : Option View) → view ≡ Some v → IsToldStep t t v (Ok (Done (Ok tt))) view
told_ended t ended v needs view is = record {
  writes = (v, is, same_view (WritesOf t v) v);
  leaves = (v, is, leaves_still (items_of t.plan) (new_items t.plan t.id t.kept) v);
  after = (v, is, needs);
  tells = subst (λ ph. tells_in ph t.phase t v (Done (Ok tt))) (sym ended) tt;
  done = (v, is, subst (λ ph. needs_in ph t v) ended needs.meets);
  fails = tt;
  unchanged = λ e. absurd (not_err (Done (Ok tt)) e);
}

-- ---- the choice of what follows

module _ (t : Deploying) (is : t.phase ≡ Choose) (v : View) (needs : Needs t v) where
  tells : (next : Phase) (turn : Turn) → tells_in t.phase next t v turn
  tells next turn = subst (λ ph. tells_in ph next t v turn) (sym is) tt

  pub choose_source : HasPlace t → (source : DepId) → IsSourceOf t.plan source → (view : Option View) → view ≡ Some v
      → IsToldStep t (in_phase (Source (unread source.commit t.plan.limits)) t) v (Ok More) view
  choose_source place source first view told =
      let walk = unread source.commit t.plan.limits in
      told_more t (in_phase (Source walk) t) v view told
      (record {
        made = made_with t (Source walk) needs.made (place, record { source = source; is_source = first; commit = refl; limits = refl });
        meets = (λ begun. absurd (let n : false ≡ true = begun in cc), subst (λ ph. needs_in ph t v) is needs.meets);
      })
      (tells (Source walk) More)

  pub choose_none : HasPlace t → (view : Option View) → view ≡ Some v → IsToldStep t (in_phase BeginBuild t) v (Ok More) view
  choose_none place view told =
      told_more t (in_phase BeginBuild t) v view told (record { made = made_with t BeginBuild needs.made place; meets = subst (λ ph. needs_in ph t v) is needs.meets }) (tells BeginBuild More)

  pub choose_refused : (view : Option View) → view ≡ Some v → IsToldStep t t v (Ok (Done (Err refusal.TooManyDeps))) view
  choose_refused view told = told_refused t t v refusal.TooManyDeps view told needs (tells t.phase (Done (Err refusal.TooManyDeps)))

-- which step it was, as its caller saw the task
pub stepped_as : (t u new got : Deploying) (turn : Turn) → t ≡ u → new ≡ got → IsStepped t (Ok turn) new → IsStepped u (Ok turn) got
stepped_as t u new got turn same is stepped = subst (λ x. IsStepped x (Ok turn) got) same (subst (λ x. IsStepped t (Ok turn) x) is stepped)

module _ (t : Deploying) (is : t.phase ≡ Choose) (place : HasPlace t) where
  pub steps_none : NoneOf (items_of t.plan) t.plan.os → IsStepped t (Ok More) (in_phase BeginBuild t)
  steps_none none = subst (λ ph. steps_in ph t More (in_phase BeginBuild t)) (sym is) (inr (place, inr (none, (refl, refl))))

  pub steps_source : (source : DepId) → IsSourceOf t.plan source → IsStepped t (Ok More) (in_phase (Source (unread source.commit t.plan.limits)) t)
  steps_source source first = subst (λ ph. steps_in ph t More (in_phase (Source (unread source.commit t.plan.limits)) t)) (sym is) (inr (place, inl (source, first, (refl, refl))))
