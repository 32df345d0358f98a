-- What an edit writes, for all others; and its facts stay true under what others may write.
use Rattle.std.proofs.Common.{◌≡◌, ◌⊎◌, inl, inr, ⊎_elim, ℕ, true, refl, sym, ◌∙◌, ap, subst, List}
use Rattle.ost_types.specs.declared.meta.Meta.{Meta}
use Rattle.ost_types.specs.Path.{Name, Path, is_in, under}
use Rattle.fs_trait.specs.declared.types.Value.TheVariants.{File}
use Rattle.fs_trait.specs.declared.task.Need.TheVariants.{RefLock}
use Rattle.fs_trait.specs.View.{View}
use Rattle.fs_trait.specs.Effect.{IsFresh}
use Rattle.fs_trait.specs.Seen.{Seen, Vacant, Directory, Symlink, Leaf, shows, MayBe, IsDirectory, NotDirectory}
use Rattle.fs_trait.specs.Change.{Own, Writes}
use Rattle.fs_trait.proofs.Facts.{leaf_not_directory, shows_kept}
use Rattle.staging.specs.Draft.{Draft}
use Rattle.staging.specs.Steps as staging
use Rattle.staging.proofs.Stable as staged
use Rattle.host_edit.specs.declared.change.Change.{Change}
use Rattle.host_edit.specs.declared.change.Change.TheVariants as change
use Rattle.host_edit.specs.declared.phase.Phase.{Phase}
use Rattle.host_edit.specs.declared.phase.Phase.TheVariants as phase
use Rattle.host_edit.specs.Editing.{Editing, IsMadeChange, fits, need_in}
use Rattle.host_edit.specs.Steps.{IsShown, IsStaged, IsStagedLeaf, Needs, ShowsNew, WritesOf, needs_in, stage_writes, writes_in}
use Rattle.host_edit.specs.There.{HasParent, IsEmptyFolder, IsLeaf}
use Rattle.host_edit.specs.Whole.{IsLooked, Lies, Spares}
use Rattle.host_edit.proofs.Changing.{file_here}
use Rattle.host_edit.proofs.Judging.{leaf_not, vacant_not}

-- ---- where its writes lie

no_file : (t : Editing) (v : View) (s : Seen) → ((n : ℕ) (m : Meta) (b : List ℕ) → s ≡ Leaf n m b → ⊥) → (n : ℕ) (m : Meta) (b : List ℕ) → s ≡ Leaf n m b → IsFresh n v ⊎ (v.now.at t.stage ≡ File n)
no_file t v s none n m b e = absurd (none n m b e)

vacant_no_file : (s : Seen) → s ≡ Vacant → (n : ℕ) (m : Meta) (b : List ℕ) → s ≡ Leaf n m b → ⊥
vacant_no_file s is n m b e = let x : Vacant ≡ Leaf n m b = sym is ∙ e in cc

link_no_file : (s : Seen) (k : Meta) (l : List ℕ) → s ≡ Symlink k l → (n : ℕ) (m : Meta) (b : List ℕ) → s ≡ Leaf n m b → ⊥
link_no_file s k l is n m b e = let x : Symlink k l ≡ Leaf n m b = sym is ∙ e in cc

folder_no_file : (s : Seen) (k : Meta) → s ≡ Directory k → (n : ℕ) (m : Meta) (b : List ℕ) → s ≡ Leaf n m b → ⊥
folder_no_file s k is n m b e = let x : Directory k ≡ Leaf n m b = sym is ∙ e in cc

link_not : (s : Seen) (k : Meta) (l : List ℕ) → s ≡ Symlink k l → NotDirectory s
link_not s k l is = subst NotDirectory (sym is) tt

module _ (t : Editing) (v : View) (needs : Needs t v) where
  stage_lies : (c : Change) → IsMadeChange t.stage c → IsStaged c t.stage v → (p : Path) (s : Seen) → stage_writes c v p s → Lies t v p s
  stage_lies (change.File d) made now p s a =
      let l = staged.staging_lies d v now p s a in
      record { place = inl (l.place ∙ made, l.file); comes = λ n m b e. subst (λ q. IsFresh n v ⊎ (v.now.at q ≡ File n)) made (l.comes n m b e); folders = inl l.folders }
  stage_lies (change.Link m l) made now p s a = absurd a
  stage_lies (change.Folder m) made now p s a = absurd a
  stage_lies change.Nothing made now p s a = absurd a

  at_stage : (p : Path) → p ≡ t.stage → NotDirectory (shows v.now t.stage) → NotDirectory (shows v.now p)
  at_stage p e is = subst (λ q. NotDirectory (shows v.now q)) (sym e) is

  link_lies : (c : Change) → fits phase.Link c → shows v.now t.stage ≡ Vacant → (p : Path) (s : Seen) → p ≡ t.stage → ShowsNew c s → Lies t v p s
  link_lies (change.File d) fit now p s e a = absurd fit
  link_lies (change.Link m l) fit now p s e a = record { place = inl (e, link_not s m l a); comes = no_file t v s (link_no_file s m l a); folders = inl (at_stage p e (vacant_not _ now)) }
  link_lies (change.Folder m) fit now p s e a = absurd fit
  link_lies change.Nothing fit now p s e a = absurd fit

  locked : (ph : Phase) → t.phase ≡ ph → need_in ph ≡ RefLock → need_in t.phase ≡ RefLock
  locked ph is lock = ap need_in is ∙ lock

  -- what is staged comes to the path, or goes from where it was
  from_stage : (d : Draft) → d.stage ≡ t.stage → (s : Seen) → staging.IsWhole d v s → (n : ℕ) (m : Meta) (b : List ℕ) → s ≡ Leaf n m b → IsFresh n v ⊎ (v.now.at t.stage ≡ File n)
  from_stage d made s file n m b e =
      let l : Leaf file.0 d.meta d.bytes ≡ Leaf n m b = sym file.1 ∙ e in
      let i : file.0 ≡ n = cc in
      inr (subst (λ q. v.now.at q ≡ File n) made (file.2 ∙ ap File i))

  shown_lies : (c : Change) → IsMadeChange t.stage c → (s : Seen) → IsStagedLeaf c v s → ShowsNew c s × ((n : ℕ) (m : Meta) (b : List ℕ) → s ≡ Leaf n m b → IsFresh n v ⊎ (v.now.at t.stage ≡ File n))
  shown_lies (change.File d) made s a = ((a.0, a.1), from_stage d made s a)
  shown_lies (change.Link m l) made s a = (a, no_file t v s (link_no_file s m l a))
  shown_lies (change.Folder m) made s a = absurd a
  shown_lies change.Nothing made s a = absurd a

  stage_leaf : (c : Change) → IsMadeChange t.stage c → fits phase.Replace c → IsStaged c t.stage v → NotDirectory (shows v.now t.stage)
  stage_leaf (change.File d) made fit now = subst (λ q. NotDirectory (shows v.now q)) made (leaf_not_directory _ now.inode d.meta d.bytes (file_here d v now fit))
  stage_leaf (change.Link m l) made fit now = link_not _ m l now
  stage_leaf (change.Folder m) made fit now = absurd fit
  stage_leaf change.Nothing made fit now = absurd fit

  replace_lies : t.phase ≡ phase.Replace → fits phase.Replace t.change → needs_in phase.Replace t v → (p : Path) (s : Seen) → writes_in phase.Replace t v p s → Lies t v p s
  replace_lies is fit now p s (inl a) =
      let b = shown_lies t.change needs.made.change s a.1 in
      record { place = inr (a.0, b.0, locked phase.Replace is refl); comes = b.1; folders = inl (subst (λ q. NotDirectory (shows v.now q)) (sym a.0) now.1) }
  replace_lies is fit now p s (inr a) = record {
    place = inl (a.0, vacant_not s a.1);
    comes = no_file t v s (vacant_no_file s a.1);
    folders = inl (at_stage p a.0 (stage_leaf t.change needs.made.change fit now.0));
  }

  folder_lies : (c : Change) → fits phase.MakeFolder c → (s : Seen) → ShowsNew c s → (n : ℕ) (m : Meta) (b : List ℕ) → s ≡ Leaf n m b → ⊥
  folder_lies (change.File d) fit s a = absurd fit
  folder_lies (change.Link m l) fit s a = absurd fit
  folder_lies (change.Folder m) fit s a = folder_no_file s m a
  folder_lies change.Nothing fit s a = absurd fit

  unlink_lies : (c : Change) → fits phase.Unlink c → (s : Seen) → ShowsNew c s → (n : ℕ) (m : Meta) (b : List ℕ) → s ≡ Leaf n m b → ⊥
  unlink_lies (change.File d) fit s a = absurd fit
  unlink_lies (change.Link m l) fit s a = absurd fit
  unlink_lies (change.Folder m) fit s a = absurd fit
  unlink_lies change.Nothing fit s a = vacant_no_file s a

  rmdir_lies : (c : Change) → fits phase.RemoveFolder c → (s : Seen) → ShowsNew c s → (n : ℕ) (m : Meta) (b : List ℕ) → s ≡ Leaf n m b → ⊥
  rmdir_lies (change.File d) fit s a = absurd fit
  rmdir_lies (change.Link m l) fit s a = absurd fit
  rmdir_lies (change.Folder m) fit s a = absurd fit
  rmdir_lies change.Nothing fit s a = vacant_no_file s a

  lies : (ph : Phase) → t.phase ≡ ph → fits ph t.change → needs_in ph t v → (p : Path) (s : Seen) → writes_in ph t v p s → Lies t v p s
  lies phase.Stage is fit now p s a = stage_lies t.change needs.made.change now p s a
  lies phase.Clear is fit now p s a = record { place = inl (a.0, vacant_not s a.1); comes = no_file t v s (vacant_no_file s a.1); folders = inl (at_stage p a.0 now.0) }
  lies phase.Link is fit now p s a = link_lies t.change fit now.0 p s a.0 a.1
  lies phase.Replace is fit now p s a = replace_lies is fit now p s a
  lies phase.MakeFolder is fit now p s a = record {
    place = inr (a.0, a.1, locked phase.MakeFolder is refl);
    comes = no_file t v s (folder_lies t.change fit s a.1);
    folders = inl (subst (λ q. NotDirectory (shows v.now q)) (sym a.0) (vacant_not _ now.0));
  }
  lies phase.Unlink is fit now p s a = record {
    place = inr (a.0, a.1, locked phase.Unlink is refl);
    comes = no_file t v s (unlink_lies t.change fit s a.1);
    folders = inl (subst (λ q. NotDirectory (shows v.now q)) (sym a.0) (leaf_not _ now.0));
  }
  lies phase.RemoveFolder is fit now p s a = record {
    place = inr (a.0, a.1, locked phase.RemoveFolder is refl);
    comes = no_file t v s (rmdir_lies t.change fit s a.1);
    folders = inr (is, subst (λ q. IsEmptyFolder v.now q) (sym a.0) now.0);
  }
  lies phase.Look is fit now p s a = absurd a
  lies phase.Sync is fit now p s a = absurd a
  lies phase.Ended is fit now p s a = absurd a

  pub edit_lies : (p : Path) (s : Seen) → WritesOf t v p s → Lies t v p s
  edit_lies = lies t.phase refl needs.made.fits needs.meets

-- ---- what stays

module _ (W : Path → Seen → Type 0) (t : Editing) (v : View) (spares : Spares W t v) (needs : Needs t v) (w : View) (writes : Writes W v w) where
  still : (p : Path) → ((s : Seen) → W p s → ⊥) → shows w.now p ≡ shows v.now p
  still p none = shows_kept W v w p writes none

  at_stage_still : shows w.now t.stage ≡ shows v.now t.stage
  at_stage_still = still t.stage spares.stage

  home_still : HasParent v.now t.stage → HasParent w.now t.stage
  home_still was f in_ = ⊎_elim (λ same. subst IsDirectory (sym same) (was f in_)) (λ a. spares.parents f _ in_ (was f in_) a) (writes.now f)

  staged_still : (c : Change) → IsMadeChange t.stage c → IsStaged c t.stage v → IsStaged c t.stage w
  staged_still (change.File d) made was = staged.staging_kept W d v (record {
    stage = λ s a. spares.stage s (subst (λ q. W q s) made a);
    parents = λ p s in_ is a. spares.parents p s (subst (λ q. is_in p q ≡ true) made in_) is a;
    own = λ n at own. subst (λ q. (p : Path) (s : Seen) → W p s → Own n q p s) (sym made) (spares.own n (subst (λ q. v.now.at q ≡ File n) made at) (subst (λ q. (p : Path) (s : Seen) → MayBe v p s → Own n q p s) made own));
  }) was w writes
  staged_still (change.Link m l) made was = at_stage_still ∙ was
  staged_still (change.Folder m) made was = tt
  staged_still change.Nothing made was = tt

  module _ (looked : IsLooked t.phase) where
    path_still : shows w.now t.at ≡ shows v.now t.at
    path_still = still t.at (spares.path looked)

    parent_still : HasParent v.now t.at → HasParent w.now t.at
    parent_still was f in_ = ⊎_elim (λ same. subst IsDirectory (sym same) (was f in_)) (λ a. spares.parent looked f _ in_ (was f in_) a) (writes.now f)

    may_still : (s : Seen) → MayBe w t.at s → MayBe v t.at s
    may_still s may = ⊎_elim (λ old. old) (λ a. absurd (spares.path looked s a)) (writes.only t.at s may)

    shown_still : (c : Change) → IsShown c t.at v → IsShown c t.at w
    shown_still (change.File d) was = record { inode = was.inode; here = path_still ∙ was.here; sure = λ m b may. was.sure m b (may_still _ may) }
    shown_still (change.Link m l) was = path_still ∙ was
    shown_still (change.Folder m) was = path_still ∙ was
    shown_still change.Nothing was = path_still ∙ was

  empty_still : t.phase ≡ phase.RemoveFolder → (x : Name) → shows v.now (under t.at x) ≡ Vacant → shows w.now (under t.at x) ≡ Vacant
  empty_still is x was = ⊎_elim (λ same. same ∙ was) (λ a. spares.inside is x _ a) (writes.now (under t.at x))

  looked_in : (ph : Phase) → t.phase ≡ ph → IsLooked ph → IsLooked t.phase
  looked_in ph is looked = subst IsLooked (sym is) looked

  needs_still : (ph : Phase) → t.phase ≡ ph → needs_in ph t v → needs_in ph t w
  needs_still phase.Stage is was = staged_still t.change needs.made.change was
  needs_still phase.Clear is was = (subst NotDirectory (sym at_stage_still) was.0, home_still was.1)
  needs_still phase.Link is was = (at_stage_still ∙ was.0, home_still was.1)
  needs_still phase.Look is was = staged_still t.change needs.made.change was
  needs_still phase.Replace is was = let l = looked_in phase.Replace is tt in (staged_still t.change needs.made.change was.0, subst NotDirectory (sym (path_still l)) was.1, parent_still l was.2)
  needs_still phase.MakeFolder is was = let l = looked_in phase.MakeFolder is tt in (path_still l ∙ was.0, parent_still l was.1)
  needs_still phase.Unlink is was = let l = looked_in phase.Unlink is tt in (subst IsLeaf (sym (path_still l)) was.0, parent_still l was.1)
  needs_still phase.RemoveFolder is was = let l = looked_in phase.RemoveFolder is tt in ((subst IsDirectory (sym (path_still l)) was.0.0, λ x. empty_still is x (was.0.1 x)), parent_still l was.1)
  needs_still phase.Sync is was = let l = looked_in phase.Sync is tt in (shown_still l t.change was.0, parent_still l was.1)
  needs_still phase.Ended is was = λ s may. was s (may_still (looked_in phase.Ended is tt) s may)

  -- The facts of the edit stay true.
  pub edit_kept : Needs t w
  edit_kept = record { made = needs.made; meets = needs_still t.phase refl needs.meets }
