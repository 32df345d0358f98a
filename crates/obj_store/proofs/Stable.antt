-- What putting an object writes, for all others; and its facts stay true under what others may write.
use Rattle.std.proofs.Common.{◌≡◌, ◌⊎◌, inl, inr, ⊎_elim, ℕ, true, refl, sym, ◌∙◌, ap, subst, List}
use Rattle.ost_types.specs.declared.meta.Meta.{Meta}
use Rattle.ost_types.specs.Path.{Path, is_in}
use Rattle.fs_trait.specs.declared.types.Value.TheVariants.{File as FileValue}
use Rattle.fs_trait.specs.declared.task.Need.TheVariants.{Shared}
use Rattle.fs_trait.specs.View.{View}
use Rattle.fs_trait.specs.Effect.{IsFresh}
use Rattle.fs_trait.specs.Seen.{Seen, Vacant, Symlink, Leaf, shows, MayBe, IsDirectory, NotDirectory}
use Rattle.fs_trait.specs.Change.{Writes, Harmless, Own}
use Rattle.fs_trait.proofs.Facts.{shows_kept, leaf_not_directory}
use Rattle.repo_layout.specs.Paths.{folder_path, objects_folder_path, stage_path}
use Rattle.repo_layout.specs.declared.folder.Folder.TheVariants.{Objects}
use Rattle.repo_model.specs.Objects.{object_in, path_of}
use Rattle.staging.specs.Draft.{Draft}
use Rattle.staging.proofs.Stable as staged
use Rattle.obj_store.specs.declared.source.Source.{Source}
use Rattle.obj_store.specs.declared.source.Source.TheVariants.{File, Link}
use Rattle.obj_store.specs.declared.phase.Phase.{Phase}
use Rattle.obj_store.specs.declared.phase.Phase.TheVariants as phase
use Rattle.obj_store.specs.Putting.{Putting, IsReady, need_in, shown}
use Rattle.obj_store.specs.Steps.{Needs, needs_in, stage_needs, stage_writes, gone_stage, still_staged, writes_in, WritesOf, IsPut}
use Rattle.obj_store.specs.Whole.{IsShown}
use Rattle.obj_store.proofs.PutLemmas.{any_inode}

-- Where a write of the next step lies: at the staging path; or, under the lock of those that store, a folder at that of the object,
-- or the object itself, each where nothing stands. A file that is written is a new one or the staged one, and takes no folder's
-- place.
pub record Lies (t : Putting) (v : View) (p : Path) (s : Seen) : Type 0 where
  pub place : ((p ≡ stage_path t.actor) × NotDirectory s)
      ⊎ ((p ≡ objects_folder_path t.name.csum) × IsDirectory s × (shows v.now p ≡ Vacant) × (need_in t.phase ≡ Shared))
      ⊎ ((p ≡ path_of t.name) × IsShown t s × NotDirectory s × (shows v.now p ≡ Vacant) × (need_in t.phase ≡ Shared))
  pub comes : (n : ℕ) (m : Meta) (b : List ℕ) → s ≡ Leaf n m b → IsFresh n v ⊎ (v.now.at (stage_path t.actor) ≡ FileValue n)
  pub folders : NotDirectory (shows v.now p)

-- what is put at the object's path is the object
put_is_shown : (t : Putting) (v : View) (src : Source) → t.source ≡ src → (s : Seen) → IsPut src v s → IsShown t s
put_is_shown t v (File d) e s a = λ bytes object.
    ap (object_in t.name.kind) a.1 ∙ any_inode t.name.kind a.0 d.meta d.bytes ∙ ap (λ x. object_in t.name.kind (shown 0 x)) (sym e) ∙ object.is
put_is_shown t v (Link m l) e s a = λ bytes object. ap (object_in t.name.kind) a ∙ ap (λ x. object_in t.name.kind (shown 0 x)) (sym e) ∙ object.is

directory_no_leaf : (s : Seen) (n : ℕ) (m : Meta) (b : List ℕ) → IsDirectory s → s ≡ Leaf n m b → ⊥
directory_no_leaf s n m b is e = subst IsDirectory e is

module _ (t : Putting) (v : View) (needs : Needs t v) where
  at_stage : (d : Draft) → t.source ≡ File d → d.stage ≡ stage_path t.actor
  at_stage d e = (subst (λ s. IsReady t.actor s) e needs.made.ready).0

  not_there : (p : Path) → shows v.now p ≡ Vacant → NotDirectory (shows v.now p)
  not_there p vacant = subst NotDirectory (sym vacant) tt

  staged_lies : (src : Source) → t.source ≡ src → (p : Path) (s : Seen) → stage_writes src v p s → stage_needs src v → Lies t v p s
  staged_lies (File d) e p s a has =
      let l = staged.staging_lies d v has p s a in
      record {
        place = inl (l.place ∙ at_stage d e, l.file);
        comes = λ n m b is. subst (λ q. IsFresh n v ⊎ (v.now.at q ≡ FileValue n)) (at_stage d e) (l.comes n m b is);
        folders = l.folders;
      }
  staged_lies (Link m l) e p s a has = absurd a

  gone_lies : (src : Source) → t.source ≡ src → (p : Path) (s : Seen) → gone_stage src p s → still_staged src v → Lies t v p s
  gone_lies (File d) e p s a still = record {
    place = inl (a.0 ∙ at_stage d e, subst NotDirectory (sym a.1) tt);
    comes = λ n m b is. (let z : Vacant ≡ Leaf n m b = sym a.1 ∙ is in cc);
    folders = subst (λ q. NotDirectory (shows v.now q)) (sym a.0) (leaf_not_directory _ still.0 d.meta d.bytes still.1);
  }
  gone_lies (Link m l) e p s a still = absurd a

  put_comes : (src : Source) → t.source ≡ src → (s : Seen) → IsPut src v s → (n : ℕ) (m : Meta) (b : List ℕ) → s ≡ Leaf n m b → IsFresh n v ⊎ (v.now.at (stage_path t.actor) ≡ FileValue n)
  put_comes (File d) e s a n m b is =
      let l : Leaf a.0 d.meta d.bytes ≡ Leaf n m b = sym a.1 ∙ is in
      let i : a.0 ≡ n = cc in
      inr (subst (λ q. v.now.at q ≡ FileValue n) (at_stage d e) (a.2 ∙ ap FileValue i))
  put_comes (Link k l) e s a n m b is = let z : Symlink k l ≡ Leaf n m b = sym a ∙ is in cc

  put_file : (src : Source) (s : Seen) → IsPut src v s → NotDirectory s
  put_file (File d) s a = leaf_not_directory s a.0 d.meta d.bytes a.1
  put_file (Link k l) s a = subst NotDirectory (sym a) tt

  lies : (ph : Phase) → t.phase ≡ ph → needs_in ph t v → (p : Path) (s : Seen) → writes_in ph t v p s → Lies t v p s
  lies phase.Look is has p s a = staged_lies t.source refl p s a has.0
  lies phase.Stage is has p s a = staged_lies t.source refl p s a has.0
  lies phase.Folder is has p s a = record {
    place = inr (inl (a.0, a.1, a.2, ap need_in is));
    comes = λ n m b e. absurd (directory_no_leaf s n m b a.1 e);
    folders = not_there p a.2;
  }
  lies phase.Link is has p s a = record {
    place = inr (inr (a.0, put_is_shown t v t.source refl s a.1, put_file t.source s a.1, a.2, ap need_in is));
    comes = put_comes t.source refl s a.1;
    folders = not_there p a.2;
  }
  lies (phase.Unlink put) is has p s a = gone_lies t.source refl p s a has
  lies (phase.Ended put) is has p s a = absurd a

  pub put_lies : (p : Path) (s : Seen) → WritesOf t v p s → Lies t v p s
  put_lies = lies t.phase refl needs.meets

-- The writes of others spare the task: they write nothing at its staging path, leave folders where folders are above it and at
-- those of the objects, and give the staged file no other name. Of the object's own path nothing is asked.
pub record Spares (W : Path → Seen → Type 0) (t : Putting) (v : View) : Type 0 where
  pub stage : (s : Seen) → W (stage_path t.actor) s → ⊥
  pub parents : (p : Path) (s : Seen) → is_in p (stage_path t.actor) ≡ true → IsDirectory (shows v.now p) → W p s → IsDirectory s
  pub own : (n : ℕ) → v.now.at (stage_path t.actor) ≡ FileValue n → ((p : Path) (s : Seen) → MayBe v p s → Own n (stage_path t.actor) p s) → Harmless W (Own n (stage_path t.actor))
  pub objects : (s : Seen) → W (folder_path Objects) s → IsDirectory s
  pub folder : (s : Seen) → W (objects_folder_path t.name.csum) s → IsDirectory s

module _ (W : Path → Seen → Type 0) (t : Putting) (v : View) (spares : Spares W t v) (needs : Needs t v) (w : View) (writes : Writes W v w) where
  still_directory : (f : Path) → ((s : Seen) → W f s → IsDirectory s) → IsDirectory (shows v.now f) → IsDirectory (shows w.now f)
  still_directory f out was = ⊎_elim (λ same. subst IsDirectory (sym same) was) (λ a. out _ a) (writes.now f)

  draft_spares : (d : Draft) → t.source ≡ File d → staged.Spares W d v
  draft_spares d e =
      let at = at_stage t v needs d e in
      record {
        stage = λ s wrote. spares.stage s (subst (λ q. W q s) at wrote);
        parents = λ p s in_ here wrote. spares.parents p s (subst (λ q. is_in p q ≡ true) at in_) here wrote;
        own = λ n is was. subst (λ q. Harmless W (Own n q)) (sym at)
            (spares.own n (subst (λ q. v.now.at q ≡ FileValue n) at is) (subst (λ q. (p : Path) (s : Seen) → MayBe v p s → Own n q p s) at was));
      }

  draft_kept : (src : Source) → t.source ≡ src → stage_needs src v → stage_needs src w
  draft_kept (File d) e has = staged.staging_kept W d v (draft_spares d e) has w writes
  draft_kept (Link m l) e has = tt

  still_kept : (src : Source) → t.source ≡ src → still_staged src v → still_staged src w
  still_kept (File d) e has = (has.0, shows_kept W v w d.stage writes (λ s wrote. spares.stage s (subst (λ q. W q s) (at_stage t v needs d e) wrote)) ∙ has.1)
  still_kept (Link m l) e has = tt

  needs_still : (ph : Phase) → needs_in ph t v → needs_in ph t w
  needs_still phase.Look has = (draft_kept t.source refl has.0, still_directory _ spares.objects has.1)
  needs_still phase.Stage has = (draft_kept t.source refl has.0, still_directory _ spares.objects has.1)
  needs_still phase.Folder has = (draft_kept t.source refl has.0, still_directory _ spares.objects has.1)
  needs_still phase.Link has = (draft_kept t.source refl has.0, still_directory _ spares.folder has.1)
  needs_still (phase.Unlink put) has = still_kept t.source refl has
  needs_still (phase.Ended put) has = tt

  -- The facts of the task stay true.
  pub put_kept : Needs t w
  put_kept = record { made = needs.made; meets = needs_still t.phase needs.meets }
