-- What committing a tree writes, for all others; and its facts stay true under what others may write.
use Rattle.std.proofs.Common.{◌≡◌, ◌≢◌, ◌⊎◌, inl, inr, ⊎_elim, ℕ, ◌<◌, pred, true, refl, sym, ◌∙◌, ap, subst, List}
use Rattle.ost_types.specs.declared.meta.Meta.{Meta}
use Rattle.ost_types.specs.declared.object.ObjName.{ObjName}
use Rattle.ost_types.specs.Path.{Path, is_in, is_below}
use Rattle.ost_types.proofs.Paths.{is_below-self}
use Rattle.fs_trait.specs.declared.types.Value.TheVariants.{File as FileValue}
use Rattle.fs_trait.specs.declared.task.Need.TheVariants.{Shared}
use Rattle.fs_trait.specs.View.{View}
use Rattle.fs_trait.specs.Effect.{IsFresh}
use Rattle.fs_trait.specs.Seen.{Seen, Vacant, Leaf, seen, shows, MayBe, IsDirectory, NotDirectory}
use Rattle.fs_trait.specs.Change.{Writes, Harmless, Own}
use Rattle.fs_trait.proofs.Facts.{shows_kept, vacant_absent}
use Rattle.repo_layout.specs.Paths.{folder_path, objects_folder_path, mark_path, stage_path}
use Rattle.repo_layout.specs.declared.folder.Folder.TheVariants.{Objects, State, Tmp}
use Rattle.repo_model.specs.Objects.{path_of}
use Rattle.tree_build.specs.Objects.{Object, work}
use Rattle.tree_build.specs.Building.{IsNumber}
use Rattle.obj_store.specs.declared.phase.Phase as putting
use Rattle.obj_store.specs.declared.phase.Phase.TheVariants as at
use Rattle.obj_store.specs.Putting as put
use Rattle.obj_store.specs.Putting.{Putting}
use Rattle.obj_store.specs.Steps as putting_steps
use Rattle.obj_store.specs.Whole.{IsShown}
use Rattle.obj_store.proofs.Stable as objects
use Rattle.commit_build.specs.declared.phase.Phase.{Phase}
use Rattle.commit_build.specs.declared.phase.Phase.TheVariants as phase
use Rattle.commit_build.specs.Committing.{Committing, Puts, named_commit, need_in}
use Rattle.commit_build.specs.Steps.{Needs, needs_in, WritesOf, writes_in, HasHomes, IsThere, IsSure, AreThere, AreSure, NotLeaf, count_in, once_seen_to}
use Rattle.commit_build.specs.Whole.{its_commit, IsOfCommit}
use Rattle.commit_build.proofs.PutSteps.{needs_as, kept_as}

-- Where a write of the next step lies: at the staging path; or, under the lock of those that store, a folder at that of an object of
-- the commit, or such an object's file or link, each where nothing stands; or the commit's mark goes, where the commit and all
-- objects of its tree are sure to outlast a crash. A file that is written is a new one or the staged one, and takes no folder's
-- place.
pub record Lies (t : Committing) (v : View) (p : Path) (s : Seen) : Type 0 where
  pub place : ((p ≡ stage_path t.actor) × NotDirectory s)
      ⊎ ((o : Object) × IsOfCommit t o × (p ≡ objects_folder_path o.name.csum) × IsDirectory s × (shows v.now p ≡ Vacant) × (need_in t.phase ≡ Shared))
      ⊎ ((o : Object) × (q : Putting) × IsOfCommit t o × Puts t.actor o q × (p ≡ path_of o.name) × IsShown q s × NotDirectory s × (shows v.now p ≡ Vacant) × (need_in t.phase ≡ Shared))
      ⊎ ((p ≡ mark_path (its_commit t).name.csum) × (s ≡ Vacant) × AreSure t.items v × IsSure v (its_commit t).name)
  pub comes : (n : ℕ) (m : Meta) (b : List ℕ) → s ≡ Leaf n m b → IsFresh n v ⊎ (v.now.at (stage_path t.actor) ≡ FileValue n)
  pub folders : NotDirectory (shows v.now p)

module _ (t : Committing) (v : View) (needs : Needs t v) where
  put_lie : (o : Object) → IsOfCommit t o → (q : Putting) → putting_steps.Needs q v → Puts t.actor o q → (put.need_in q.phase ≡ need_in t.phase) → (p : Path) (s : Seen) → putting_steps.WritesOf q v p s → Lies t v p s
  put_lie o of q has puts same p s wrote =
      let l = objects.put_lies q v has p s wrote in
      let stage = ap stage_path puts.by in
      let sum = ap (λ (n : ObjName). n.csum) puts.name in
      record {
        place = ⊎_elim
            (λ a. inl (a.0 ∙ stage, a.1))
            (λ b. ⊎_elim
            (λ a. inr (inl (o, of, a.0 ∙ ap objects_folder_path sum, a.1, a.2, sym same ∙ a.3)))
            (λ a. inr (inr (inl (o, q, of, puts, a.0 ∙ ap path_of puts.name, a.1, a.2, a.3, sym same ∙ a.4))))
            b)
            l.place;
        comes = λ n m b is. subst (λ f. IsFresh n v ⊎ (v.now.at f ≡ FileValue n)) stage (l.comes n m b is);
        folders = l.folders;
      }

  lies : (ph : Phase) → t.phase ≡ ph → (p : Path) (s : Seen) → writes_in ph v p s → Lies t v p s
  lies phase.Check is p s a = absurd a
  lies phase.Make is p s a = absurd a
  lies (phase.Made c) is p s a = absurd a
  lies (phase.Put q) is p s a =
      let last = (kept_as t needs.made (phase.Put q) is).1 in
      put_lie last.object (inl (last.last.number, last.last.object)) q (needs_as t v needs (phase.Put q) is).0 last.puts (sym (ap need_in is)) p s a
  lies phase.SyncObjects is p s a = absurd a
  lies phase.MakeCommit is p s a = absurd a
  lies (phase.PutCommit q) is p s a =
      put_lie (its_commit t) (inr refl) q (needs_as t v needs (phase.PutCommit q) is).0 (kept_as t needs.made (phase.PutCommit q) is).2 (sym (ap need_in is)) p s a
  lies (phase.SyncCommit sum) is p s a = absurd a
  lies (phase.Unmark sum) is p s a =
      let name : named_commit sum ≡ (its_commit t).name = (kept_as t needs.made (phase.Unmark sum) is).1.name in
      let has = needs_as t v needs (phase.Unmark sum) is in
      record {
        place = inr (inr (inr (a.0 ∙ ap (λ (n : ObjName). mark_path n.csum) name, a.1, has.0, subst (IsSure v) name has.1)));
        comes = λ n m b e. (let z : Vacant ≡ Leaf n m b = sym a.1 ∙ e in cc);
        folders = a.2;
      }
  lies (phase.SyncState sum) is p s a = absurd a
  lies (phase.Ended sum) is p s a = absurd a

  pub commit_lies : (p : Path) (s : Seen) → WritesOf t v p s → Lies t v p s
  commit_lies = lies t.phase refl

-- The objects that the rest of the way relies on: those that were put so far, and once all were, all of the commit.
abbrev pub AreFirst : Committing → ℕ → Object → Type 0
AreFirst t count o = (n : ℕ) × (n < count) × IsNumber (work t.items) n o

abbrev pub IsOfTree : Committing → Object → Type 0
IsOfTree t o = (n : ℕ) × IsNumber (work t.items) n o

-- the object's path is seen to
abbrev pub IsSeenTo : putting.Phase → Type 0
IsSeenTo (at.Unlink k) = Unit {0}
IsSeenTo (at.Ended k) = Unit {0}
IsSeenTo f = ⊥

abbrev pub relied_in : Phase → Committing → Object → Type 0
relied_in phase.Check t o = ⊥
relied_in phase.Make t o = AreFirst t t.made o
relied_in (phase.Made c) t o = AreFirst t (pred t.made) o
relied_in (phase.Put p) t o = AreFirst t (count_in p.phase t.made) o
relied_in phase.SyncObjects t o = AreFirst t t.made o
relied_in phase.MakeCommit t o = IsOfTree t o
relied_in (phase.PutCommit p) t o = IsOfTree t o ⊎ ((o ≡ its_commit t) × IsSeenTo p.phase)
relied_in ph t o = IsOfCommit t o

abbrev pub Relies : Committing → Object → Type 0
Relies t = relied_in t.phase t

-- once the mark is away
abbrev pub no_mark_in : Phase → Type 0
no_mark_in (phase.SyncState sum) = Unit {0}
no_mark_in (phase.Ended sum) = Unit {0}
no_mark_in ph = ⊥

-- The writes of others spare the task: they write nothing at its staging path, and give the staged file no other name; they leave
-- folders where folders are above that, at the layout's, and above the commit's objects; they take none of the objects away on
-- which the task relies, and leave no leaf at the commit's mark once it is away.
pub record Spares (W : Path → Seen → Type 0) (t : Committing) (v : View) : Type 0 where
  pub stage : (s : Seen) → W (stage_path t.actor) s → ⊥
  pub parents : (p : Path) (s : Seen) → is_in p (stage_path t.actor) ≡ true → IsDirectory (shows v.now p) → W p s → IsDirectory s
  pub own : (n : ℕ) → v.now.at (stage_path t.actor) ≡ FileValue n → ((p : Path) (s : Seen) → MayBe v p s → Own n (stage_path t.actor) p s) → Harmless W (Own n (stage_path t.actor))
  pub objects : (s : Seen) → W (folder_path Objects) s → IsDirectory s
  pub staging : (s : Seen) → W (folder_path Tmp) s → IsDirectory s
  pub state : (s : Seen) → W (folder_path State) s → IsDirectory s
  pub above : (o : Object) → IsOfCommit t o → (p : Path) (s : Seen) → is_below p (objects_folder_path o.name.csum) ≡ true → W p s → IsDirectory s
  pub there : (o : Object) → Relies t o → (s : Seen) → W (path_of o.name) s → s ≢ Vacant
  pub mark : no_mark_in t.phase → (s : Seen) → W (mark_path (its_commit t).name.csum) s → NotLeaf s

module _ (W : Path → Seen → Type 0) (t : Committing) (v : View) (spares : Spares W t v) (needs : Needs t v) (w : View) (writes : Writes W v w) where
  still_directory : (f : Path) → ((s : Seen) → W f s → IsDirectory s) → IsDirectory (shows v.now f) → IsDirectory (shows w.now f)
  still_directory f out was = ⊎_elim (λ same. subst IsDirectory (sym same) was) (λ a. out _ a) (writes.now f)

  still_there : (name : ObjName) → ((s : Seen) → W (path_of name) s → s ≢ Vacant) → IsThere v.now name → IsThere w.now name
  still_there name out was gone = ⊎_elim
      (λ same. was (vacant_absent v.now (path_of name) (sym same ∙ ap (seen w.now) gone)))
      (λ a. out _ a (ap (seen w.now) gone))
      (writes.now (path_of name))

  still_sure : (o : Object) → IsOfCommit t o → ((s : Seen) → W (path_of o.name) s → s ≢ Vacant) → IsSure v o.name → IsSure w o.name
  still_sure o of out was = record {
    there = λ s may. ⊎_elim (λ before. was.there s before) (λ a. out s a) (writes.only (path_of o.name) s may);
    above = λ p s may below. ⊎_elim (λ before. was.above p s before below) (λ a. spares.above o of p s below a) (writes.only p s may);
  }

  relied : (ph : Phase) → t.phase ≡ ph → (o : Object) → relied_in ph t o → (s : Seen) → W (path_of o.name) s → s ≢ Vacant
  relied ph is o r = spares.there o (subst (λ f. relied_in f t o) (sym is) r)

  first_kept : (ph : Phase) → t.phase ≡ ph → (count : ℕ) → ((o : Object) → AreFirst t count o → relied_in ph t o) → AreThere t.items count v.now → AreThere t.items count w.now
  first_kept ph is count rely was = record { each = λ n o less number. still_there o.name (relied ph is o (rely o (n, less, number))) (was.each n o less number) }

  tree_kept : (ph : Phase) → t.phase ≡ ph → ((o : Object) → IsOfTree t o → relied_in ph t o) → AreSure t.items v → AreSure t.items w
  tree_kept ph is rely was = record { each = λ n o number. still_sure o (inl (n, number)) (relied ph is o (rely o (n, number))) (was.each n o number) }

  put_spares : (o : Object) → IsOfCommit t o → (q : Putting) → Puts t.actor o q → objects.Spares W q v
  put_spares o of q puts =
      let at : stage_path q.actor ≡ stage_path t.actor = ap stage_path puts.by in
      let folder : objects_folder_path q.name.csum ≡ objects_folder_path o.name.csum = ap (λ (n : ObjName). objects_folder_path n.csum) puts.name in
      record {
        stage = λ s wrote. spares.stage s (subst (λ f. W f s) at wrote);
        parents = λ p s in_ here wrote. spares.parents p s (subst (λ f. is_in p f ≡ true) at in_) here wrote;
        own = λ n is was. subst (λ f. Harmless W (Own n f)) (sym at)
            (spares.own n (subst (λ f. v.now.at f ≡ FileValue n) at is) (subst (λ f. (p : Path) (s : Seen) → MayBe v p s → Own n f p s) at was));
        objects = spares.objects;
        folder = λ s wrote. spares.above o of (objects_folder_path o.name.csum) s (is_below-self (objects_folder_path o.name.csum)) (subst (λ f. W f s) folder wrote);
      }

  put_kept : (o : Object) → IsOfCommit t o → (q : Putting) → Puts t.actor o q → putting_steps.Needs q v → putting_steps.Needs q w
  put_kept o of q puts has = objects.put_kept W q v (put_spares o of q puts) has w writes

  -- the commit, once its path was seen to
  once_kept : (p : Putting) → t.phase ≡ phase.PutCommit p → (f : putting.Phase) → p.phase ≡ f → p.name ≡ (its_commit t).name → once_seen_to f (IsThere v.now p.name) → once_seen_to f (IsThere w.now p.name)
  once_kept p is at.Look at_ name was = tt
  once_kept p is at.Stage at_ name was = tt
  once_kept p is at.Folder at_ name was = tt
  once_kept p is at.Link at_ name was = tt
  once_kept p is (at.Unlink k) at_ name was =
      still_there p.name (λ s wrote. relied (phase.PutCommit p) is (its_commit t) (inr (refl, subst IsSeenTo (sym at_) tt)) s (subst (λ n. W (path_of n) s) name wrote)) was
  once_kept p is (at.Ended k) at_ name was =
      still_there p.name (λ s wrote. relied (phase.PutCommit p) is (its_commit t) (inr (refl, subst IsSeenTo (sym at_) tt)) s (subst (λ n. W (path_of n) s) name wrote)) was

  -- the commit is sure to be there
  commit_kept_at : (ph : Phase) → t.phase ≡ ph → relied_in ph t (its_commit t) → (sum : List ℕ) → named_commit sum ≡ (its_commit t).name → IsSure v (named_commit sum) → IsSure w (named_commit sum)
  commit_kept_at ph is rely sum name was =
      subst (IsSure w) (sym name) (still_sure (its_commit t) (inr refl) (relied ph is (its_commit t) rely) (subst (IsSure v) name was))

  still_unmarked : (sum : List ℕ) → named_commit sum ≡ (its_commit t).name → no_mark_in t.phase → (s : Seen) → W (mark_path sum) s → NotLeaf s
  still_unmarked sum name none s wrote = spares.mark none s (subst (λ (n : ObjName). W (mark_path n.csum) s) name wrote)

  needs_still : (ph : Phase) → t.phase ≡ ph → needs_in ph t v → needs_in ph t w
  needs_still phase.Check is has = tt
  needs_still phase.Make is has = first_kept phase.Make is t.made (λ o r. r) has
  needs_still (phase.Made c) is has = first_kept (phase.Made c) is (pred t.made) (λ o r. r) has
  needs_still (phase.Put p) is has =
      let last = (kept_as t needs.made (phase.Put p) is).1 in (
        put_kept last.object (inl (last.last.number, last.last.object)) p last.puts has.0,
        first_kept (phase.Put p) is (count_in p.phase t.made) (λ o r. r) has.1,
      )
  needs_still phase.SyncObjects is has = first_kept phase.SyncObjects is t.made (λ o r. r) has
  needs_still phase.MakeCommit is has = tree_kept phase.MakeCommit is (λ o r. r) has
  needs_still (phase.PutCommit p) is has =
      let puts = (kept_as t needs.made (phase.PutCommit p) is).2 in (
        put_kept (its_commit t) (inr refl) p puts has.0,
        tree_kept (phase.PutCommit p) is (λ o r. inl r) has.1,
        once_kept p is p.phase refl puts.name has.2,
      )
  needs_still (phase.SyncCommit sum) is has =
      let name : named_commit sum ≡ (its_commit t).name = (kept_as t needs.made (phase.SyncCommit sum) is).1.name in (
        tree_kept (phase.SyncCommit sum) is (λ o r. inl r) has.0,
        still_there (named_commit sum) (λ s wrote. relied (phase.SyncCommit sum) is (its_commit t) (inr refl) s (subst (λ n. W (path_of n) s) name wrote)) has.1,
      )
  needs_still (phase.Unmark sum) is has =
      let name : named_commit sum ≡ (its_commit t).name = (kept_as t needs.made (phase.Unmark sum) is).1.name in (
        tree_kept (phase.Unmark sum) is (λ o r. inl r) has.0,
        commit_kept_at (phase.Unmark sum) is (inr refl) sum name has.1,
      )
  needs_still (phase.SyncState sum) is has =
      let name : named_commit sum ≡ (its_commit t).name = (kept_as t needs.made (phase.SyncState sum) is).1.name in
      let none = subst no_mark_in (sym is) tt in (
        tree_kept (phase.SyncState sum) is (λ o r. inl r) has.0,
        commit_kept_at (phase.SyncState sum) is (inr refl) sum name has.1,
        ⊎_elim (λ same. subst NotLeaf (sym same) has.2) (λ a. still_unmarked sum name none _ a) (writes.now (mark_path sum)),
      )
  needs_still (phase.Ended sum) is has =
      let name : named_commit sum ≡ (its_commit t).name = (kept_as t needs.made (phase.Ended sum) is).1.name in
      let none = subst no_mark_in (sym is) tt in (
        tree_kept (phase.Ended sum) is (λ o r. inl r) has.0,
        commit_kept_at (phase.Ended sum) is (inr refl) sum name has.1,
        record { each = λ s may. ⊎_elim (λ was. has.2.each s was) (λ a. still_unmarked sum name none s a) (writes.only (mark_path sum) s may) },
      )

  homes_still : HasHomes t.actor w.now
  homes_still = record {
    objects = still_directory _ spares.objects needs.homes.objects;
    staging = still_directory _ spares.staging needs.homes.staging;
    state = still_directory _ spares.state needs.homes.state;
    stage = subst NotDirectory (sym (shows_kept W v w (stage_path t.actor) writes spares.stage)) needs.homes.stage;
  }

  -- The facts of the task stay true.
  pub commit_kept : Needs t w
  commit_kept = record { made = needs.made; homes = homes_still; meets = needs_still t.phase refl needs.meets }
