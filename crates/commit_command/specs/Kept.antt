-- What others write is harmless to a commit, and so is what the change of its own ref writes.
use Rattle.std.proofs.Common.{◌≡◌, ◌≢◌, ◌⊎◌, ⊎_elim, ℕ, true, refl, ◌∙◌, ap, subst, List, inl, inr}
use Rattle.ost_types.specs.Path.{Path, is_below}
use Rattle.ost_types.proofs.Paths.{is_below-self, under-is_below}
use Rattle.fs_trait.specs.View.{View}
use Rattle.fs_trait.specs.Seen.{Seen, Vacant, Directory, Symlink, Leaf, IsDirectory}
use Rattle.fs_trait.specs.Change.{Writes}
use Rattle.fs_trait.proofs.Effects.{may_now}
use Rattle.repo_layout.specs.declared.folder.Folder.{Folder}
use Rattle.repo_layout.specs.declared.folder.Folder.TheVariants as folder
use Rattle.repo_layout.specs.Paths.{folder_path, objects_folder_path, mark_path, stage_path}
use Rattle.repo_layout.specs.Place.{Place, Stage, ObjectsFolder, Object, Mark, Other, place}
use Rattle.repo_layout.proofs.Places.{place-objects_folder}
use Rattle.repo_model.specs.Objects.{path_of}
use Rattle.ref_store.specs.Change as store
use Rattle.ref_store.specs.Steps as ref
use Rattle.tree_build.specs.Objects as tree
use Rattle.commit_build.specs.declared.phase.Phase.{Phase}
use Rattle.commit_build.specs.declared.phase.Phase.TheVariants as phase
use Rattle.commit_build.specs.Committing.{Committing}
use Rattle.commit_build.specs.Steps.{Needs, IsSure, NotLeaf}
use Rattle.commit_build.specs.Whole.{its_commit, IsOfCommit}
use Rattle.commit_build.proofs.Stable.{relied_in, Spares, no_mark_in, commit_kept}
use Rattle.commit_build.proofs.PutSteps.{needs_as, kept_as}
use Rattle.rely_guarantee.specs.Books.{Books, Keeps}
use Rattle.rely_guarantee.specs.Rely.{Guarantee, Interference}
use Rattle.layout_rules.proofs.Layouts.{fixed_other}
use Rattle.rely_guarantee.proofs.Mays.{not_other, own_harmless, at_place, stage_apart, object_stays}
use Rattle.commit_command.specs.declared.naming.Naming.{Naming}
use Rattle.ref_command.specs.Kept.{facts_kept, facts_gain, stage_folder}
use Rattle.commit_command.specs.declared.command.CommitCommand.{CommitCommand}
use Rattle.commit_command.specs.Kinds.{planned}
use Rattle.commit_command.specs.Facts.{Pinned, Lasts, Building, Changing}
use Rattle.commit_command.specs.Lying.{OfRef, stage_place, object_place, mark_place, ref_place}

-- a path above an object's folder is that folder, or a folder of the layout is there
pub above_objects : (sum : List ℕ) (p : Path) → is_below p (objects_folder_path sum) ≡ true → (p ≡ objects_folder_path sum) ⊎ (is_below p (folder_path folder.Objects) ≡ true)
unfolding objects_folder_path
above_objects sum p below = ⊎_elim (λ up. inr up) (λ e. inl e) (under-is_below p (folder_path folder.Objects) _ below)

-- What is sure to last is so under writes that take no object of the commit away, leave folders above them, and bring no mark.
pub lasts_kept : (W : Path → Seen → Type 0) (t : Committing) (v w : View) → Writes W v w
    → ((o : tree.Object) → IsOfCommit t o → (s : Seen) → W (path_of o.name) s → s ≢ Vacant)
    → ((sum : List ℕ) (p : Path) (s : Seen) → is_below p (objects_folder_path sum) ≡ true → W p s → IsDirectory s)
    → ((s : Seen) → W (mark_path (its_commit t).name.csum) s → NotLeaf s)
    → Lasts t v → Lasts t w
lasts_kept W t v w writes there above mark was = record {
  tree = record { each = λ n o number. sure o (inl (n, number)) (was.tree.each n o number) };
  commit = sure (its_commit t) (inr refl) was.commit;
  unmarked = record { each = λ s may. ⊎_elim (λ before. was.unmarked.each s before) (λ a. mark s a) (writes.only (mark_path (its_commit t).name.csum) s may) };
}
  where
    sure : (o : tree.Object) → IsOfCommit t o → IsSure v o.name → IsSure w o.name
    sure o of had = record {
      there = λ s may. ⊎_elim (λ before. had.there s before) (λ a. there o of s a) (writes.only (path_of o.name) s may);
      above = λ p s may below. ⊎_elim (λ before. had.above p s before below) (λ a. above o.name.csum p s below a) (writes.only p s may);
    }

-- the change of the ref writes nothing there
module _ (t : store.Change) (v : View) (needs : ref.Needs t v) where
  ref_not : (x : Place) → (OfRef t.actor x → ⊥) → (p : Path) (s : Seen) → place p ≡ x → ref.WritesOf t v p s → ⊥
  ref_not x none p s at wrote = none (subst (OfRef t.actor) at (ref_place t v needs p s wrote))

  pub lasts_own : (c : Committing) (w : View) → Writes (ref.WritesOf t v) v w → Lasts c v → Lasts c w
  lasts_own c w writes was = lasts_kept (ref.WritesOf t v) c v w writes
      (λ o of s wrote. absurd (ref_not (Object o.name.kind o.name.csum) (λ n. n) (path_of o.name) s (object_place c o of) wrote))
      (λ sum p s below wrote. absurd (⊎_elim
      (λ e. ref_not (ObjectsFolder _) (λ n. n) p s (ap place e ∙ place-objects_folder sum) wrote)
      (λ up. ref_not (Other p) (λ n. n) p s (fixed_other folder.Objects p up) wrote)
      (above_objects sum p below)))
      (λ s wrote. absurd (ref_not (Mark (its_commit c).name.csum) (λ n. n) (mark_path (its_commit c).name.csum) s (mark_place c) wrote))
      was

not_leaf : (s : Seen) → (s ≢ Vacant → ⊥) → NotLeaf s
not_leaf Vacant none = tt
not_leaf (Directory m) none = tt
not_leaf (Symlink m l) none = absurd (none (λ e. let n : Symlink m l ≡ Vacant = e in cc))
not_leaf (Leaf n m b) none = absurd (none (λ e. let n : Leaf n m b ≡ Vacant = e in cc))

module _ (b : Books) (v : View) (actor lane mine : ℕ) (not : mine ≢ actor) (other : mine ≢ lane) where
  abbrev W : Path → Seen → Type 0
  W = Guarantee b v actor lane

  fixed_free : (f : Folder) (p : Path) (s : Seen) → is_below p (folder_path f) ≡ true → W p s → ⊥
  fixed_free f p s below wrote = not_other b v actor lane p s (fixed_other f p below) wrote

  -- a pinned object stays
  there : (t : Committing) (o : tree.Object) → IsOfCommit t o → Pinned mine b o.name → (s : Seen) → W (path_of o.name) s → s ≢ Vacant
  there t o of pin s wrote gone = object_stays b v actor lane mine o.name.kind o.name.csum (path_of o.name) (record { lane = mine; object = o.name }) other (object_place t o of) pin refl refl refl (subst (W (path_of o.name)) gone wrote)

  above : (sum : List ℕ) (p : Path) (s : Seen) → is_below p (objects_folder_path sum) ≡ true → W p s → IsDirectory s
  above sum p s below wrote = ⊎_elim
      (λ e. at_place b v actor lane p s (ObjectsFolder _) (ap place e ∙ place-objects_folder sum) wrote)
      (λ up. absurd (fixed_free folder.Objects p s up wrote))
      (above_objects sum p below)

  -- no mark comes where the commit is
  unmarked : (t : Committing) → IsSure v (its_commit t).name → (s : Seen) → W (mark_path (its_commit t).name.csum) s → NotLeaf s
  unmarked t sure s wrote = not_leaf s (λ comes. sure.there _ (may_now v (path_of (its_commit t).name)) (wrote.marks (its_commit t).name.csum (mark_place t) comes).1)

  -- the commit is there, where its mark is away
  sure_in : (t : Committing) → Needs t v → (ph : Phase) → t.phase ≡ ph → no_mark_in ph → IsSure v (its_commit t).name
  sure_in t needs (phase.SyncState sum) is none = subst (IsSure v) (kept_as t needs.made (phase.SyncState sum) is).1.name (needs_as t v needs (phase.SyncState sum) is).1
  sure_in t needs (phase.Ended sum) is none = subst (IsSure v) (kept_as t needs.made (phase.Ended sum) is).1.name (needs_as t v needs (phase.Ended sum) is).1
  sure_in t needs phase.Check is none = absurd none
  sure_in t needs phase.Make is none = absurd none
  sure_in t needs (phase.Made c) is none = absurd none
  sure_in t needs (phase.Put p) is none = absurd none
  sure_in t needs phase.SyncObjects is none = absurd none
  sure_in t needs phase.MakeCommit is none = absurd none
  sure_in t needs (phase.PutCommit p) is none = absurd none
  sure_in t needs (phase.SyncCommit sum) is none = absurd none
  sure_in t needs (phase.Unmark sum) is none = absurd none

  relied_of : (t : Committing) (ph : Phase) (o : tree.Object) → relied_in ph t o → IsOfCommit t o
  relied_of t phase.Check o r = absurd r
  relied_of t phase.Make o r = inl (r.0, r.2)
  relied_of t (phase.Made c) o r = inl (r.0, r.2)
  relied_of t (phase.Put p) o r = inl (r.0, r.2)
  relied_of t phase.SyncObjects o r = inl (r.0, r.2)
  relied_of t phase.MakeCommit o r = inl r
  relied_of t (phase.PutCommit p) o r = ⊎_elim (λ n. inl n) (λ c. inr c.0) r
  relied_of t (phase.SyncCommit sum) o r = r
  relied_of t (phase.Unmark sum) o r = r
  relied_of t (phase.SyncState sum) o r = r
  relied_of t (phase.Ended sum) o r = r

  module _ (t : CommitCommand) (f : Building mine t v b) where
    stage : place (stage_path t.build.actor) ≡ Stage mine
    stage = stage_place t.build.actor f.needs.made.actor ∙ ap Stage f.mine

    spares : Spares W t.build v
    spares = record {
      stage = λ s wrote. stage_apart b v actor lane mine (stage_path t.build.actor) (stage_path t.build.actor) s not stage wrote refl;
      parents = λ p s in_ here wrote. absurd (fixed_free folder.Tmp p s (stage_folder t.build.actor p in_) wrote);
      own = λ n is was. own_harmless b v actor lane mine (stage_path t.build.actor) n not stage is was;
      objects = λ s wrote. absurd (fixed_free folder.Objects (folder_path folder.Objects) s (is_below-self (folder_path folder.Objects)) wrote);
      staging = λ s wrote. absurd (fixed_free folder.Tmp (folder_path folder.Tmp) s (is_below-self (folder_path folder.Tmp)) wrote);
      state = λ s wrote. absurd (fixed_free folder.State (folder_path folder.State) s (is_below-self (folder_path folder.State)) wrote);
      above = λ o of p s below wrote. above o.name.csum p s below wrote;
      there = λ o r s wrote. there t.build o (relied_of t.build t.build.phase o r) (f.pins o r) s wrote;
      mark = λ none s wrote. unmarked t.build (sure_in t.build f.needs t.build.phase refl none) s wrote;
    }

    -- the facts of a build survive what others do
    pub building_kept : (w : View) (b' : Books) → Interference actor lane v b w b' → Building mine t w b'
    building_kept w b' does = record {
      needs = commit_kept W t.build v spares f.needs w does.writes;
      mine = f.mine;
      met = f.met;
      pins = λ o r. does.books.pins (record { lane = mine; object = o.name }) other (f.pins o r);
      held = λ was name is. does.books.pins (record { lane = mine; object = name }) other (f.held was name is);
      change = λ commit. facts_kept b v actor lane mine not other (planned t commit).work.task w b' (f.change commit) does;
    }

  -- and so do those of the change
  pub changing_kept : (t : CommitCommand) (n : Naming) → Changing mine t n v b → (w : View) (b' : Books) → Interference actor lane v b w b' → Changing mine t n w b'
  changing_kept t n f w b' does = record {
    ref = facts_kept b v actor lane mine not other n.work.task w b' f.ref does;
    of = f.of;
    tree = f.tree;
    lasts = lasts_kept W t.build v w does.writes
        (λ o of s wrote. there t.build o of (f.pins o of) s wrote)
        (λ sum p s below wrote. above sum p s below wrote)
        (λ s wrote. unmarked t.build f.lasts.commit s wrote)
        f.lasts;
    pins = λ o of. does.books.pins (record { lane = mine; object = o.name }) other (f.pins o of);
  }

-- What the lane gains is no harm.
pub building_gain : (lane : ℕ) (t : CommitCommand) (v : View) (b b' : Books) → Keeps lane b b' → Building lane t v b → Building lane t v b'
building_gain lane t v b b' keeps f = record {
  needs = f.needs;
  mine = f.mine;
  met = f.met;
  pins = λ o r. keeps.pins (record { lane = lane; object = o.name }) refl (f.pins o r);
  held = λ was name is. keeps.pins (record { lane = lane; object = name }) refl (f.held was name is);
  change = λ commit. facts_gain lane (planned t commit).work.task v b b' keeps (f.change commit);
}

pub changing_gain : (lane : ℕ) (t : CommitCommand) (n : Naming) (v : View) (b b' : Books) → Keeps lane b b' → Changing lane t n v b → Changing lane t n v b'
changing_gain lane t n v b b' keeps f = record {
  ref = facts_gain lane n.work.task v b b' keeps f.ref;
  of = f.of;
  tree = f.tree;
  lasts = f.lasts;
  pins = λ o of. keeps.pins (record { lane = lane; object = o.name }) refl (f.pins o of);
}
