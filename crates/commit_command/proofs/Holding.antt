-- From the facts of a commit that runs: what it has stored or found is pinned, and there; and that a step which stored an object had
-- room for it.
use Rattle.std.proofs.Common.{◌≡◌, inl, inr, ⊎_elim, ◌<◌, ℕ, refl, sym, ◌∙◌, ap, subst, List, Option, Some, None}
use Rattle.ost_types.specs.declared.object.ObjName.{ObjName}
use Rattle.fs_trait.specs.declared.types.Value.TheVariants.{Absent}
use Rattle.fs_trait.specs.declared.task.StepResult.TheVariants as turn
use Rattle.fs_trait.specs.View.{View}
use Rattle.fs_trait.specs.Seen.{seen}
use Rattle.fs_trait.proofs.Effects.{may_now}
use Rattle.repo_model.specs.Objects.{path_of}
use Rattle.tree_build.specs.Objects.{Object}
use Rattle.obj_store.specs.declared.phase.Put.{Put}
use Rattle.obj_store.specs.declared.phase.Put.TheVariants.{Stored}
use Rattle.obj_store.specs.declared.phase.Phase as putting
use Rattle.obj_store.specs.declared.phase.Phase.TheVariants as at
use Rattle.obj_store.specs.Putting.{Putting}
use Rattle.commit_build.specs.declared.phase.Phase.{Phase}
use Rattle.commit_build.specs.declared.phase.Phase.TheVariants as phase
use Rattle.commit_build.specs.Committing.{Committing, Follows, IsEnded, commit_in, named_commit}
use Rattle.commit_build.specs.Steps.{AreSure, CameOf, IsSure, IsThere, Needs, NeverMarked, came_in, once_seen_to}
use Rattle.commit_build.specs.Whole.{its_commit, IsOfCommit}
use Rattle.commit_build.proofs.MetSteps.{Met, met_put, met_commit, met_calm}
use Rattle.commit_build.proofs.PutSteps.{kept_as, needs_as}
use Rattle.commit_build.proofs.Stable.{IsSeenTo, relied_in}
use Rattle.rely_guarantee.specs.Books.{Books}
use Rattle.commit_command.specs.declared.naming.Naming.{Naming}
use Rattle.commit_command.specs.declared.command.CommitCommand.{CommitCommand}
use Rattle.commit_command.specs.Kinds.{BuildSteps, Builds, commit_leaves, leaves_at, leaves_by, met_in}
use Rattle.commit_command.specs.Facts.{commit_facts, facts_by}
use Rattle.commit_command.specs.Held.{AreHeld, AreHeldBy, IsCommitSynced, IsTreeSynced, WasLacking}

-- what is sure to be there, is there
sure_there : (v : View) (name : ObjName) → IsSure v name → IsThere v.now name
sure_there v name sure gone = sure.there _ (may_now v (path_of name)) (ap (seen v.now) gone)

once_there : (ph : putting.Phase) (P : Type 0) → IsSeenTo ph → once_seen_to ph P → P
once_there (at.Unlink k) P seen once = once
once_there (at.Ended k) P seen once = once
once_there at.Look P seen once = absurd seen
once_there at.Stage P seen once = absurd seen
once_there at.Folder P seen once = absurd seen
once_there at.Link P seen once = absurd seen

module _ (t : Committing) (v : View) (needs : Needs t v) where
  -- once the tree's objects are sure to be there, and the commit is there
  all_there : AreSure t.items v → IsThere v.now (its_commit t).name → (o : Object) → IsOfCommit t o → IsThere v.now o.name
  all_there tree commit o (inl n) = sure_there v o.name (tree.each n.0 o n.1)
  all_there tree commit o (inr e) = subst (λ (x : Object). IsThere v.now x.name) (sym e) commit

  build_there : (ph : Phase) → t.phase ≡ ph → (o : Object) → relied_in ph t o → IsThere v.now o.name
  build_there phase.Check is o r = absurd r
  build_there phase.Make is o r = (needs_as t v needs phase.Make is).each r.0 o r.1 r.2
  build_there (phase.Made c) is o r = (needs_as t v needs (phase.Made c) is).each r.0 o r.1 r.2
  build_there (phase.Put p) is o r = (needs_as t v needs (phase.Put p) is).1.each r.0 o r.1 r.2
  build_there phase.SyncObjects is o r = (needs_as t v needs phase.SyncObjects is).each r.0 o r.1 r.2
  build_there phase.MakeCommit is o r = sure_there v o.name ((needs_as t v needs phase.MakeCommit is).each r.0 o r.1)
  build_there (phase.PutCommit p) is o r =
      let has = needs_as t v needs (phase.PutCommit p) is in
      let name : p.name ≡ (its_commit t).name = (kept_as t needs.made (phase.PutCommit p) is).2.name in
      ⊎_elim
      (λ n. sure_there v o.name (has.1.each n.0 o n.1))
      (λ c. subst (λ (x : Object). IsThere v.now x.name) (sym c.0) (subst (IsThere v.now) name (once_there p.phase (IsThere v.now p.name) c.1 has.2)))
      r
  build_there (phase.SyncCommit sum) is o r =
      let has = needs_as t v needs (phase.SyncCommit sum) is in
      all_there has.0 (subst (IsThere v.now) (kept_as t needs.made (phase.SyncCommit sum) is).1.name has.1) o r
  build_there (phase.Unmark sum) is o r =
      let has = needs_as t v needs (phase.Unmark sum) is in
      all_there has.0 (subst (IsThere v.now) (kept_as t needs.made (phase.Unmark sum) is).1.name (sure_there v (named_commit sum) has.1)) o r
  build_there (phase.SyncState sum) is o r =
      let has = needs_as t v needs (phase.SyncState sum) is in
      all_there has.0 (subst (IsThere v.now) (kept_as t needs.made (phase.SyncState sum) is).1.name (sure_there v (named_commit sum) has.1)) o r
  build_there (phase.Ended sum) is o r =
      let has = needs_as t v needs (phase.Ended sum) is in
      all_there has.0 (subst (IsThere v.now) (kept_as t needs.made (phase.Ended sum) is).1.name (sure_there v (named_commit sum) has.1)) o r

  tree_sure : (ph : Phase) → t.phase ≡ ph → IsTreeSynced ph → AreSure t.items v
  tree_sure phase.MakeCommit is late = needs_as t v needs phase.MakeCommit is
  tree_sure (phase.PutCommit p) is late = (needs_as t v needs (phase.PutCommit p) is).1
  tree_sure (phase.SyncCommit sum) is late = (needs_as t v needs (phase.SyncCommit sum) is).0
  tree_sure (phase.Unmark sum) is late = (needs_as t v needs (phase.Unmark sum) is).0
  tree_sure (phase.SyncState sum) is late = (needs_as t v needs (phase.SyncState sum) is).0
  tree_sure (phase.Ended sum) is late = (needs_as t v needs (phase.Ended sum) is).0
  tree_sure phase.Check is late = absurd late
  tree_sure phase.Make is late = absurd late
  tree_sure (phase.Made c) is late = absurd late
  tree_sure (phase.Put p) is late = absurd late
  tree_sure phase.SyncObjects is late = absurd late

  commit_sure : (ph : Phase) → t.phase ≡ ph → IsCommitSynced ph → IsSure v (its_commit t).name
  commit_sure (phase.Unmark sum) is late = subst (IsSure v) (kept_as t needs.made (phase.Unmark sum) is).1.name (needs_as t v needs (phase.Unmark sum) is).1
  commit_sure (phase.SyncState sum) is late = subst (IsSure v) (kept_as t needs.made (phase.SyncState sum) is).1.name (needs_as t v needs (phase.SyncState sum) is).1
  commit_sure (phase.Ended sum) is late = subst (IsSure v) (kept_as t needs.made (phase.Ended sum) is).1.name (needs_as t v needs (phase.Ended sum) is).1
  commit_sure phase.Check is late = absurd late
  commit_sure phase.Make is late = absurd late
  commit_sure (phase.Made c) is late = absurd late
  commit_sure (phase.Put p) is late = absurd late
  commit_sure phase.SyncObjects is late = absurd late
  commit_sure phase.MakeCommit is late = absurd late
  commit_sure (phase.PutCommit p) is late = absurd late
  commit_sure (phase.SyncCommit sum) is late = absurd late

  commit_unmarked : (ph : Phase) → t.phase ≡ ph → IsEnded ph → NeverMarked (its_commit t).name.csum v
  commit_unmarked (phase.Ended sum) is ended =
      subst (λ c. NeverMarked c v) (ap (λ (n : ObjName). n.csum) (kept_as t needs.made (phase.Ended sum) is).1.name) (needs_as t v needs (phase.Ended sum) is).2
  commit_unmarked phase.Check is ended = absurd ended
  commit_unmarked phase.Make is ended = absurd ended
  commit_unmarked (phase.Made c) is ended = absurd ended
  commit_unmarked (phase.Put p) is ended = absurd ended
  commit_unmarked phase.SyncObjects is ended = absurd ended
  commit_unmarked phase.MakeCommit is ended = absurd ended
  commit_unmarked (phase.PutCommit p) is ended = absurd ended
  commit_unmarked (phase.SyncCommit sum) is ended = absurd ended
  commit_unmarked (phase.Unmark sum) is ended = absurd ended
  commit_unmarked (phase.SyncState sum) is ended = absurd ended

held_by : (o : Option Naming) (lane : ℕ) (t : CommitCommand) (v : View) (b : Books) → facts_by o lane t v b → AreHeldBy o lane t.build v b
held_by None lane t v b f = record {
  pinned = f.pins;
  there = λ o r. build_there t.build v f.needs t.build.phase refl o r;
  met = f.met;
  tree = λ late. tree_sure t.build v f.needs t.build.phase refl late;
  commit = λ late. commit_sure t.build v f.needs t.build.phase refl late;
  unmarked = λ ended. commit_unmarked t.build v f.needs t.build.phase refl ended;
}
held_by (Some n) lane t v b f = record {
  pinned = f.pins;
  there = there;
  met = λ name put is. (let e : None ≡ Some (name, put) = is in cc);
  tree = λ late. f.lasts.tree;
  commit = λ late. f.lasts.commit;
  unmarked = λ ended. f.lasts.unmarked;
}
  where
    there : (o : Object) → IsOfCommit t.build o → IsThere v.now o.name
    there o (inl k) = sure_there v o.name (f.lasts.tree.each k.0 o k.1)
    there o (inr e) = subst (λ (x : Object). IsThere v.now x.name) (sym e) (sure_there v (its_commit t.build).name f.lasts.commit)

pub held_of : (lane : ℕ) (t : CommitCommand) (v : View) (b : Books) → commit_facts lane t v b → AreHeld lane t v b
held_of lane t v b f = held_by t.change lane t v b f

-- ---- a step that stored an object
module _ (objects most : ℕ) (name : ObjName) (v w : View) where
  abbrev WasRoom : Type 0
  WasRoom = (objects < most) × (v.now.at (path_of name) ≡ Absent)

  came_lacking : (p : Putting) (met : Option (ObjName × Put)) → met ≡ Some (name, Stored) → Met p.name p.phase met → CameOf objects most met p v w → WasRoom
  came_lacking p met is named came =
      let k : name ≡ p.name = subst (Met p.name p.phase) is named in
      let c = subst (λ m. CameOf objects most m p v w) is came in
      (c.1, subst (λ n. v.now.at (path_of n) ≡ Absent) (sym k) c.0.0)

  calm_lacking : (met : Option (ObjName × Put)) → met ≡ Some (name, Stored) → met ≡ None → WasRoom
  calm_lacking met is none = let n : None ≡ Some (name, Stored) = sym none ∙ is in cc

  step_lacking : (t : Committing) (old new : Phase) (count : ℕ) (met : Option (ObjName × Put)) → met ≡ Some (name, Stored) → Follows t old new count met → came_in objects most old met v w → WasRoom
  step_lacking t (phase.Put p) new count met is f came = came_lacking p met is (met_put t p new count met f) came
  step_lacking t (phase.PutCommit p) new count met is f came = came_lacking p met is (met_commit t p new count met f) came
  step_lacking t phase.Check new count met is f came = calm_lacking met is (met_calm t phase.Check new count met tt f)
  step_lacking t phase.Make new count met is f came = calm_lacking met is (met_calm t phase.Make new count met tt f)
  step_lacking t (phase.Made c) new count met is f came = calm_lacking met is (met_calm t (phase.Made c) new count met tt f)
  step_lacking t phase.SyncObjects new count met is f came = calm_lacking met is (met_calm t phase.SyncObjects new count met tt f)
  step_lacking t phase.MakeCommit new count met is f came = calm_lacking met is (met_calm t phase.MakeCommit new count met tt f)
  step_lacking t (phase.SyncCommit sum) new count met is f came = calm_lacking met is (met_calm t (phase.SyncCommit sum) new count met tt f)
  step_lacking t (phase.Unmark sum) new count met is f came = calm_lacking met is (met_calm t (phase.Unmark sum) new count met tt f)
  step_lacking t (phase.SyncState sum) new count met is f came = calm_lacking met is (met_calm t (phase.SyncState sum) new count met tt f)
  step_lacking t (phase.Ended sum) new count met is f came = calm_lacking met is (met_calm t (phase.Ended sum) new count met tt f)

build_lacking : (objects : ℕ) (old new : Committing) (v w : View) (name : ObjName) → BuildSteps objects old None new → Builds objects old new v w → new.met ≡ Some (name, Stored) → (objects < old.limits.objects) × (v.now.at (path_of name) ≡ Absent)
build_lacking objects old new v w name (inl s) l is = step_lacking objects old.limits.objects name v w old old.phase new.phase new.made new.met is s.0.1 l.tells
build_lacking objects old new v w name (inr s) l is = calm_lacking objects old.limits.objects name v w new.met is (ap (λ (x : Committing). x.met) s.1.0)

lacking_at : (c : Option (List ℕ)) (t new : CommitCommand) (v w : View) (name : ObjName) → t.change ≡ None → leaves_at c t turn.More new v w → met_in new.change new.build ≡ Some (name, Stored) → WasLacking t name v
lacking_at None t new v w name none l is =
    let change : new.change ≡ None = ap (λ (x : CommitCommand). x.change) l.0.0 ∙ none in
    build_lacking t.objects t.build new.build v w name l.0.1 l.1 (subst (λ o. met_in o new.build ≡ Some (name, Stored)) change is)
lacking_at (Some commit) t new v w name none l is =
    let n : None ≡ Some (name, Stored) = sym (ap (λ (x : CommitCommand). met_in x.change new.build) l.0) ∙ is in cc

lacking_by : (o : Option Naming) (t new : CommitCommand) (v w : View) (name : ObjName) → t.change ≡ o → leaves_by o t turn.More new v w → met_in new.change new.build ≡ Some (name, Stored) → WasLacking t name v
lacking_by None t new v w name is l met = lacking_at (commit_in t.build.phase) t new v w name is l met
lacking_by (Some n) t new v w name is l met =
    let e : None ≡ Some (name, Stored) = sym (ap (λ (x : CommitCommand). met_in x.change new.build) l.1) ∙ met in cc

pub stored_of : (t new : CommitCommand) (v w : View) (name : ObjName) → commit_leaves t turn.More new v w → met_in new.change new.build ≡ Some (name, Stored) → WasLacking t name v
stored_of t new v w name l met = lacking_by t.change t new v w name refl l met
