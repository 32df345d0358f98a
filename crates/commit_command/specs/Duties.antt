-- What a step of the build writes is what its lane may write, and changes nothing that the state speaks of.
use Rattle.std.proofs.Common.{◌≡◌, ◌≢◌, ◌⊎◌, inl, inr, ⊎_elim, ℕ, refl, sym, ◌∙◌, ap, subst, List, [], Contains, Option, Some, None}
use Rattle.std.proofs.lemmas.List.Elements.{All-contains}
use Rattle.ost_types.specs.declared.meta.Meta.{Meta}
use Rattle.ost_types.specs.declared.object.Kind.{Kind}
use Rattle.ost_types.specs.declared.object.Kind.TheVariants.{Commit}
use Rattle.ost_types.specs.declared.object.ObjName.{ObjName}
use Rattle.ost_types.specs.Path.{Name, Path}
use Rattle.fs_trait.specs.declared.task.Need.{Need}
use Rattle.fs_trait.specs.declared.task.Need.TheVariants.{Nothing, Shared}
use Rattle.fs_trait.specs.declared.types.Value.TheVariants.{File}
use Rattle.fs_trait.specs.View.{View}
use Rattle.fs_trait.specs.Image.{Holds}
use Rattle.fs_trait.specs.Effect.{IsFresh}
use Rattle.fs_trait.specs.Seen.{Seen, Vacant, Leaf, shows, NotDirectory}
use Rattle.repo_layout.specs.Paths.{object_path, stage_path}
use Rattle.repo_layout.specs.Place.{Checkout, Stage, Ref, ObjectsFolder, Object, Mark, place}
use Rattle.repo_layout.proofs.Places.{place-ref, place-objects_folder}
use Rattle.layout_rules.specs.InLayout.{InLayout}
use Rattle.repo_model.specs.Objects.{object_in}
use Rattle.obj_store.specs.Putting as put
use Rattle.obj_store.specs.Putting.{Putting, IsObject}
use Rattle.obj_store.specs.Whole.{IsShown}
use Rattle.tree_build.specs.Objects as tree
use Rattle.commit_build.specs.declared.phase.Phase.{Phase}
use Rattle.commit_build.specs.declared.phase.Phase.TheVariants as phase
use Rattle.commit_build.specs.Committing.{Puts, need_in, named_by, storing_in}
use Rattle.commit_build.specs.Steps.{WritesIn}
use Rattle.commit_build.proofs.Stable.{Lies, commit_lies}
use Rattle.commit_build.proofs.Wholes.{of_commit_sum}
use Rattle.rely_guarantee.specs.declared.books.Share.{Share}
use Rattle.rely_guarantee.specs.State.{RefOf}
use Rattle.rely_guarantee.specs.Books.{Books, Free, Agrees}
use Rattle.rely_guarantee.specs.Objects.{IsObjectSeen}
use Rattle.rely_guarantee.specs.Rely.{Guarantee, may_at, NotOthers}
use Rattle.rely_guarantee.specs.Change.{Still}
use Rattle.rely_guarantee.specs.Laws.{Stood, StepObligation, Within}
use Rattle.rely_guarantee.proofs.Calls.{own_file}
use Rattle.commit_command.specs.declared.command.CommitCommand.{CommitCommand}
use Rattle.commit_command.specs.Kinds.{build_kind}
use Rattle.commit_command.specs.Facts.{Building}
use Rattle.commit_command.specs.Lying.{OfBuild, build_place, stage_place, object_place, mark_place}
use Rattle.commit_command.specs.Ruled.{stage_fits, folder_fits, object_fits, gone_fits}

-- who stores, keeps those out that remove objects
pub free_by : (b : Books) (actor lane : ℕ) → Agrees b → Contains b.shared (record { actor = actor; lane = lane }) → Free b.exclusive lane
free_by b actor lane agrees has x alone = sym (All-contains (λ (s : Share). s.lane ≡ x) b.shared (record { actor = actor; lane = lane }) (agrees.shared x alone) has)

-- a step under the lock of those that store is one of putting an object
stores_at : (n : Need) (name : ObjName) → n ≡ Shared → named_by n name ≡ None → ⊥
stores_at n name is none = let e : Some name ≡ None = sym (ap (λ x. named_by x name) is) ∙ none in cc

stores : (ph : Phase) → need_in ph ≡ Shared → storing_in ph ≡ None → ⊥
stores (phase.Put p) is none = stores_at (put.need_in p.phase) p.name is none
stores (phase.PutCommit p) is none = stores_at (put.need_in p.phase) p.name is none
stores phase.Check is none = let n : Nothing ≡ Shared = is in cc
stores phase.Make is none = let n : Nothing ≡ Shared = is in cc
stores (phase.Made c) is none = let n : Nothing ≡ Shared = is in cc
stores phase.SyncObjects is none = let n : Nothing ≡ Shared = is in cc
stores phase.MakeCommit is none = let n : Nothing ≡ Shared = is in cc
stores (phase.SyncCommit sum) is none = let n : Nothing ≡ Shared = is in cc
stores (phase.Unmark sum) is none = let n : Nothing ≡ Shared = is in cc
stores (phase.SyncState sum) is none = let n : Nothing ≡ Shared = is in cc
stores (phase.Ended sum) is none = let n : Nothing ≡ Shared = is in cc

object_held : (o : tree.Object) (q : Putting) (actor : ℕ) (s : Seen) → Puts actor o q → IsShown q s → object_in o.name.kind s ≡ Some o.bytes
object_held o q actor s puts shown =
    subst (λ (n : ObjName). object_in n.kind s ≡ Some o.bytes) puts.name
    (shown o.bytes (subst (λ (n : ObjName). IsObject n o.bytes q.source) (sym puts.name) puts.object))

object_comes : (o : tree.Object) (q : Putting) (actor : ℕ) (s : Seen) → Puts actor o q → IsShown q s → s ≢ Vacant
object_comes o q actor s puts shown e =
    let n : None ≡ Some o.bytes = sym (ap (object_in o.name.kind) e) ∙ object_held o q actor s puts shown in
    cc

-- the object that is put has the name of its path
object_seen : (o : tree.Object) (q : Putting) (actor : ℕ) (s : Seen) → Puts actor o q → IsShown q s → NotDirectory s → (kind : Kind) (sum : List ℕ) → Object o.name.kind o.name.csum ≡ Object kind sum → IsObjectSeen kind sum s
object_seen o q actor s puts shown leaf kind sum at =
    let k : o.name.kind ≡ kind = cc in
    let c : o.name.csum ≡ sum = cc in
    subst (λ (x : Kind). IsObjectSeen x sum s) k
    (subst (λ (x : List ℕ). IsObjectSeen o.name.kind x s) c
    (record { bytes = o.bytes; holds = object_held o q actor s puts shown; named = puts.object.named; leaf = leaf }))

-- Where a step of the build writes, its lane may; objects and their folders under the lock of those that store.
module _ (b : Books) (v : View) (lane : ℕ) (t : CommitCommand) (f : Building lane t v b) where
  stage : place (stage_path t.build.actor) ≡ Stage lane
  stage = stage_place t.build.actor f.needs.made.actor ∙ ap Stage f.mine

  at : (p : Path) (s : Seen) → (need_in t.build.phase ≡ Shared → Free b.exclusive lane) → Lies t.build v p s → may_at b lane lane (place p) s
  at p s free l = ⊎_elim
      (λ a. subst (λ x. may_at b lane lane x s) (sym (ap place a.0 ∙ stage)) refl)
      (λ more. ⊎_elim
      (λ a. subst (λ x. may_at b lane lane x s) (sym (ap place a.2 ∙ place-objects_folder a.0.name.csum)) a.3)
      (λ rest. ⊎_elim
      (λ a. subst (λ x. may_at b lane lane x s) (sym (ap place a.4 ∙ object_place t.build a.0 a.2)) (free a.8, a.6, λ gone. absurd (object_comes a.0 a.1 t.build.actor s a.3 a.5 gone)))
      (λ a. subst (λ x. may_at b lane lane x s) (sym (ap place a.0 ∙ mark_place t.build)) (subst NotDirectory (sym a.1) tt))
      rest)
      more)
      l.place

  comes : (p : Path) (s : Seen) → Lies t.build v p s → (n : ℕ) (m : Meta) (bytes : List ℕ) → s ≡ Leaf n m bytes → IsFresh n v ⊎ ((q : Path) × Holds v q (File n) × NotOthers lane (place q))
  comes p s l n m bytes e = ⊎_elim (λ fresh. inl fresh) (λ is. inr (own_file v lane (stage_path t.build.actor) n stage is)) (l.comes n m bytes e)

  fits : (p : Path) (s : Seen) → Lies t.build v p s → InLayout p s
  fits p s l = ⊎_elim
      (λ a. stage_fits t.build.actor p s f.needs.made.actor (ap place a.0 ∙ stage_place t.build.actor f.needs.made.actor) a.0)
      (λ more. ⊎_elim
      (λ a. folder_fits a.0.name.csum p s (of_commit_sum t.build a.0 a.1) a.2 a.3)
      (λ rest. ⊎_elim
      (λ a. object_fits a.0.name.kind a.0.name.csum p s (of_commit_sum t.build a.0 a.2) a.4)
      (λ a. gone_fits p s a.1)
      rest)
      more)
      l.place

  -- an object comes whole, where nothing stands
  objects : (p : Path) (s : Seen) → Lies t.build v p s → (kind : Kind) (sum : List ℕ) → place p ≡ Object kind sum → (shows v.now p ≡ Vacant) × IsObjectSeen kind sum s
  objects p s l kind sum is = ⊎_elim
      (λ a. (let n : Stage lane ≡ Object kind sum = sym (ap place a.0 ∙ stage) ∙ is in cc))
      (λ more. ⊎_elim
      (λ a. (let n : ObjectsFolder _ ≡ Object kind sum = sym (ap place a.2 ∙ place-objects_folder a.0.name.csum) ∙ is in cc))
      (λ rest. ⊎_elim
      (λ a. (a.7, object_seen a.0 a.1 t.build.actor s a.3 a.5 a.6 kind sum (sym (ap place a.4 ∙ object_place t.build a.0 a.2) ∙ is)))
      (λ a. (let n : Mark _ ≡ Object kind sum = sym (ap place a.0 ∙ mark_place t.build) ∙ is in cc))
      rest)
      more)
      l.place

  -- only the commit's own mark is written, and it goes
  marks : (p : Path) (s : Seen) → Lies t.build v p s → (commit : List ℕ) → place p ≡ Mark commit → s ≢ Vacant → Free b.exclusive lane × (shows v.now (object_path Commit commit) ≡ Vacant)
  marks p s l commit is there = ⊎_elim
      (λ a. (let n : Stage lane ≡ Mark commit = sym (ap place a.0 ∙ stage) ∙ is in cc))
      (λ more. ⊎_elim
      (λ a. (let n : ObjectsFolder _ ≡ Mark commit = sym (ap place a.2 ∙ place-objects_folder a.0.name.csum) ∙ is in cc))
      (λ rest. ⊎_elim
      (λ a. (let n : Object a.0.name.kind a.0.name.csum ≡ Mark commit = sym (ap place a.4 ∙ object_place t.build a.0 a.2) ∙ is in cc))
      (λ a. absurd (there a.1))
      rest)
      more)
      l.place

  -- no checkout's folder is made
  checkouts : (p : Path) (s : Seen) → Lies t.build v p s → (name : Name) → place p ≡ Checkout name [] → shows v.now p ≡ Vacant
  checkouts p s l name is = absurd (⊎_elim
      (λ a. (let n : Stage lane ≡ Checkout name [] = sym (ap place a.0 ∙ stage) ∙ is in cc))
      (λ more. ⊎_elim
      (λ a. (let n : ObjectsFolder _ ≡ Checkout name [] = sym (ap place a.2 ∙ place-objects_folder a.0.name.csum) ∙ is in cc))
      (λ rest. ⊎_elim
      (λ a. (let n : Object a.0.name.kind a.0.name.csum ≡ Checkout name [] = sym (ap place a.4 ∙ object_place t.build a.0 a.2) ∙ is in cc))
      (λ a. (let n : Mark _ ≡ Checkout name [] = sym (ap place a.0 ∙ mark_place t.build) ∙ is in cc))
      rest)
      more)
      l.place)

  within : (need_in t.build.phase ≡ Shared → Free b.exclusive lane) → Within (WritesIn t.objects t.build v) (Guarantee b v lane lane)
  within free p s wrote =
      let l = commit_lies t.build v f.needs p s wrote.0 in
      record { at = at p s free l; comes = comes p s l; folders = inr (inl l.folders); fits = fits p s l; objects = λ kind sum is. inl (objects p s l kind sum is); marks = marks p s l; checkouts = checkouts p s l }

  still : Still (WritesIn t.objects t.build v) v
  still (RefOf name) s wrote =
      let n : OfBuild t.build.actor (Ref name) = subst (OfBuild t.build.actor) (place-ref name) (build_place t.build v f.needs.made.actor _ s (commit_lies t.build v f.needs _ s wrote.0)) in
      absurd n

  -- each step of the build keeps the obligation of its kind
  pub build_duty : (actor : ℕ) (o : Option ObjName) → storing_in t.build.phase ≡ o → Agrees b → Stood (build_kind t.pinned o) actor lane b → (Done : View → Type 0)
      → StepObligation (build_kind t.pinned o) actor lane v b (WritesIn t.objects t.build v) Done
  build_duty actor None is agrees stood Done = (within (λ shared. absurd (stores t.build.phase shared is)), still)
  build_duty actor (Some name) is agrees stood Done = (within (λ shared. free_by b actor lane agrees (stood.shared refl)), still)
