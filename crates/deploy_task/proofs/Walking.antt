-- From what the walk of the source's tree answered to what a step says.
use Rattle.std.proofs.Common.{◌≡◌, Option, Some, Result, Ok, Err, refl, sym, ◌∙◌, ap, subst}
use Rattle.ost_types.specs.PathMap.{IsPathMap}
use Rattle.fs_trait.specs.declared.types.FsErr.{FsErr}
use Rattle.fs_trait.specs.declared.task.StepResult.{StepResult}
use Rattle.fs_trait.specs.declared.task.StepResult.TheVariants.{More, Done}
use Rattle.fs_trait.specs.View.{View}
use Rattle.boot_model.specs.declared.item.DepId.{DepId}
use Rattle.deploy_etc.specs.Defaults.{AreDefaults}
use Rattle.deployment_build.specs.Deployment.{etc_of}
use Rattle.tree_read.specs.declared.fault.TreeFault.{TreeFault}
use Rattle.tree_read.specs.Reading as walk
use Rattle.tree_read.specs.Reading.{Reading}
use Rattle.tree_walk.specs.Standing.{Standing}
use Rattle.tree_scan.specs.Scanning as scan
use Rattle.deploy_task.specs.declared.refusal.DeployRefusal.TheVariants as refusal
use Rattle.deploy_task.specs.declared.phase.Phase.TheVariants.{Source, Etc}
use Rattle.deploy_task.specs.Deploying.{BeginsReading, Deploying, IsStepped, Turn, in_phase, items_of, steps_in, walked_to}
use Rattle.deploy_task.specs.Steps.{IsToldStep, Needs, refuses_in}
use Rattle.deploy_task.proofs.Keeping.{back_to, in_part, walk_refused}
use Rattle.deploy_task.proofs.Lists.{first_once}
use Rattle.deploy_task.proofs.Reading as reading
use Rattle.deploy_task.proofs.Telling.{told_as, told_error}

abbrev Answer : Type 0
Answer = StepResult (Result (Unit {0}) TreeFault)

module _ (t : Deploying) (w : Reading) (is : t.phase ≡ Source w) (u : Reading) (r : Result Answer FsErr) (stepped : walk.IsStepped w r u) where
  as_answered : (answer : Answer) → r ≡ Ok answer → walk.IsStepped w (Ok answer) u
  as_answered answer ok = subst (λ x. walk.IsStepped w x u) ok stepped

  read_all : (x : Unit {0}) → r ≡ Ok (Done (Ok x)) → u ≡ w
  read_all x ok = as_answered (Done (Ok x)) ok

  read_off : (fault : TreeFault) → r ≡ Ok (Done (Err fault)) → u ≡ w
  read_off fault ok = walk_refused w u fault (as_answered (Done (Err fault)) ok)

  -- which step it was
  walks : (answer : Answer) → r ≡ Ok answer → (turn : Turn) (new : Deploying) → walked_to answer u t turn new → IsStepped t (Ok turn) new
  walks answer ok turn new goes = subst (λ ph. steps_in ph t turn new) (sym is) (record { part = u; inner = answer; step = as_answered answer ok; goes = goes })

  pub walks_on : r ≡ Ok More → IsStepped t (Ok More) (in_phase (Source u) t)
  walks_on ok = walks More ok More (in_phase (Source u) t) (refl, refl)

  pub walks_off : (fault : TreeFault) → r ≡ Ok (Done (Err fault)) → IsStepped t (Ok (Done (Err (refusal.Source fault)))) (in_phase (Source u) t)
  walks_off fault ok = walks (Done (Err fault)) ok (Done (Err (refusal.Source fault))) (in_phase (Source u) t) (refl, back_to t (Source w) (Source u) is (ap Source (read_off fault ok)))

  pub walks_all : (x : Unit {0}) → r ≡ Ok (Done (Ok x)) → (turn : Turn) (new : Deploying) → BeginsReading u.found t turn new → IsStepped t (Ok turn) new
  walks_all x ok turn new begins = walks (Done (Ok x)) ok turn new begins

  module _ (v : View) (needs : Needs t v) (view : Option View) (told : view ≡ Some v) (tells : walk.TellsIn (Standing v.now) v.now w r u) where
    told_by : (answer : Answer) → r ≡ Ok answer → walk.TellsIn (Standing v.now) v.now w (Ok answer) u
    told_by answer ok = subst (λ x. walk.TellsIn (Standing v.now) v.now w x u) ok tells

    pub walked_on : r ≡ Ok More → IsToldStep t (in_phase (Source u) t) v (Ok More) view
    walked_on ok = reading.walk_more t w is v needs u (as_answered More ok) (told_by More ok) view told

    pub walked_off : (fault : TreeFault) → r ≡ Ok (Done (Err fault)) → IsToldStep t (in_phase (Source u) t) v (Ok (Done (Err (refusal.Source fault)))) view
    walked_off fault ok =
        let same = read_off fault ok in
        told_as t t t (in_phase (Source u) t) refl (sym (back_to t (Source w) (Source u) is (ap Source same))) v _ view
        (reading.walk_refused t w is v needs fault (subst (λ x. walk.TellsIn (Standing v.now) v.now w (Ok (Done (Err fault))) x) same (told_by (Done (Err fault)) ok)) view told)

    pub walked_err : (e : FsErr) → r ≡ Err e → (new : Deploying) → IsToldStep t new v (Err e) view
    walked_err e err new = told_error t new v e view told (subst (λ ph. refuses_in ph v e) (sym is) (subst (λ x. walk.TellsIn (Standing v.now) v.now w x u) err tells))

    pub walked_all : (x : Unit {0}) → r ≡ Ok (Done (Ok x)) → (turn : Turn) (new : Deploying) → BeginsReading u.found t turn new → IsToldStep t new v (Ok turn) view
    walked_all x ok turn new (source, defaults, first, tree, map, are, goes) =
        let same = read_all x ok in
        let known = told_by (Done (Ok x)) ok in
        let of = (in_part t (Source w) is needs.made).1 in
        let commit = of.commit ∙ ap (λ (i : DepId). i.commit) (first_once (items_of t.plan) t.plan.os of.source source of.is_source first) in
        subst (λ y. IsToldStep t new v (Ok y) view) (sym goes.0)
        (told_as t t (in_phase (Etc defaults (scan.begun (etc_of source) t.plan.limits)) t) new refl (sym goes.1) v (Ok More) view
        (reading.etc_begins t w is v needs known.0 known.1 source defaults first commit (subst (λ (x : Reading). IsPathMap x.found) same tree) map (subst (λ (x : Reading). AreDefaults x.found defaults) same are) view told))
