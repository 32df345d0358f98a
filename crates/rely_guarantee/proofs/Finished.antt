-- A commit that is whole stays so: whoever acts, and after each crash once all was synced.
use Rattle.std.proofs.Common.{◌≡◌, ◌≢◌, ⊎_elim, ℕ, refl, sym, ◌∙◌, ap, subst, List, [], Contains}
use Rattle.ost_types.specs.declared.object.Kind.TheVariants.{Commit}
use Rattle.ost_types.specs.declared.object.ObjName.{ObjName}
use Rattle.ost_types.specs.Path.{Path}
use Rattle.fs_trait.specs.View.{View, all_synced}
use Rattle.fs_trait.specs.Seen.{Seen, shows, MayBe}
use Rattle.fs_trait.specs.Change.{Writes, LeadsTo}
use Rattle.fs_trait.proofs.Effects.{all_synced-firm}
use Rattle.repo_layout.specs.declared.folder.Folder.TheVariants.{Objects}
use Rattle.repo_layout.specs.Paths.{mark_path, object_path, objects_folder_path}
use Rattle.repo_layout.specs.Place.{Place, ObjectsFolder, Object, Mark, Other, place}
use Rattle.repo_layout.proofs.Places.{place-mark, place-object, place-objects_folder}
use Rattle.layout_rules.proofs.Layouts.{fixed_other}
use Rattle.repo_model.specs.Objects.{path_of}
use Rattle.repo_model.specs.Trees.{name_of}
use Rattle.reach.specs.Reach.{Reach}
use Rattle.rely_guarantee.specs.Books.{Books}
use Rattle.rely_guarantee.specs.Disks.{IsLeaf}
use Rattle.rely_guarantee.specs.Lasting.{IsFinishedNow, IsSafe, Stays, StaysFinished}
use Rattle.rely_guarantee.specs.Rely.{Guarantee}
use Rattle.rely_guarantee.specs.Removing.{IsPinned}
use Rattle.rely_guarantee.proofs.Lasting.{above_objects, leads_harmless, no_vacant_leaf, unmarked_stays}
use Rattle.rely_guarantee.proofs.Removing.{pinned_guards, pinned_safe}

pub finished_stays : (out : List ObjName) (v w : View) (commit : List ℕ) → Stays out v w → ¬ (Contains out (name_of Commit commit)) → StaysFinished v commit → StaysFinished w commit
finished_stays out v w commit stays kept f = record { there = stays.safe (name_of Commit commit) kept f.there; unmarked = stays.unmarked commit kept f.there f.unmarked }

-- a sync of all makes it last
pub finished_synced : (v : View) (commit : List ℕ) → IsFinishedNow v commit → StaysFinished (all_synced v) commit
finished_synced v commit f = record {
  there = record {
    sum = f.sum;
    there = λ s may e. f.there (sym ((all_synced-firm v (object_path Commit commit)).each s may) ∙ e);
    above = λ p s may. subst (LeadsTo (objects_folder_path commit) p) (sym ((all_synced-firm v p).each s may)) (f.above p);
  };
  unmarked = record { each = λ s may leaf. f.unmarked (subst IsLeaf ((all_synced-firm v (mark_path commit)).each s may) leaf) };
}

-- a commit that a running command has pinned stays so whoever acts
pub finished_pinned : (b : Books) (v w : View) (actor lane : ℕ) → Writes (Guarantee b v actor lane) v w → (mine : ℕ) → mine ≢ lane → (commit : List ℕ) → IsPinned mine b (name_of Commit commit) → StaysFinished v commit → StaysFinished w commit
finished_pinned b v w actor lane writes mine other commit pinned f = record {
  there = pinned_safe b v w actor lane writes mine other (name_of Commit commit) pinned (name_of Commit commit) (Reach.start (name_of Commit commit) refl) f.there;
  unmarked = unmarked_stays b v w actor lane writes commit f.there f.unmarked;
}

-- nobody removes it, or brings a mark where it is
pub finished_now : (b : Books) (v w : View) (actor lane : ℕ) → Writes (Guarantee b v actor lane) v w → (mine : ℕ) → mine ≢ lane → (commit : List ℕ) → IsPinned mine b (name_of Commit commit) → IsFinishedNow v commit → IsFinishedNow w commit
finished_now b v w actor lane writes mine other commit pinned f = record {
  sum = f.sum;
  there = λ e. ⊎_elim
      (λ same. f.there (sym same ∙ e))
      (λ m. ⊎_elim
      (λ comes. f.there comes.0)
      (λ goes. goes.2 (pinned_guards b v w actor lane writes mine other (name_of Commit commit) pinned (name_of Commit commit) (Reach.start (name_of Commit commit) refl)))
      (m.objects Commit commit (place-object Commit commit f.sum)))
      (writes.now (object_path Commit commit));
  above = λ p. ⊎_elim
      (λ same. subst (LeadsTo (objects_folder_path commit) p) (sym same) (f.above p))
      (λ m. leads_harmless b v w actor lane writes commit p (shows w.now p) m)
      (writes.now p);
  unmarked = λ leaf. ⊎_elim
      (λ same. f.unmarked (subst IsLeaf same leaf))
      (λ m. f.there (m.marks commit (place-mark commit f.sum) (no_vacant_leaf (shows w.now (mark_path commit)) leaf)).1)
      (writes.now (mark_path commit));
}

-- Neither objects, nor their folders, nor marks are here, nor what is above them.
abbrev pub IsElsewhere : Place → Type 0
IsElsewhere (ObjectsFolder digits) = ⊥
IsElsewhere (Object kind sum) = ⊥
IsElsewhere (Mark commit) = ⊥
IsElsewhere (Other p) = ⊥
IsElsewhere x = Unit {0}

-- Who writes elsewhere alone leaves all objects as they are.
module _ (W : Path → Seen → Type 0) (v w : View) (writes : Writes W v w) (elsewhere : (p : Path) (s : Seen) → W p s → IsElsewhere (place p)) where
  apart : (p : Path) (x : Place) → place p ≡ x → (IsElsewhere x → ⊥) → (s : Seen) → MayBe w p s → MayBe v p s
  apart p x at none s may = ⊎_elim (λ was. was) (λ wrote. absurd (none (subst IsElsewhere at (elsewhere p s wrote)))) (writes.only p s may)

  object_apart : (name : ObjName) → IsSafe v name → (s : Seen) → MayBe w (path_of name) s → MayBe v (path_of name) s
  object_apart name safe s may = apart (path_of name) (Object name.kind name.csum) (place-object name.kind name.csum safe.sum) (λ is. is) s may

  leads_apart : (sum : List ℕ) → ((p : Path) (s : Seen) → MayBe v p s → LeadsTo (objects_folder_path sum) p s) → (p : Path) (s : Seen) → MayBe w p s → LeadsTo (objects_folder_path sum) p s
  leads_apart sum was p s may below = ⊎_elim
      (λ above. was p s (apart p (Other p) (fixed_other Objects p above) (λ is. is) s may) below)
      (λ is. was p s (apart p (ObjectsFolder _) (ap place is ∙ place-objects_folder sum) (λ is. is) s may) below)
      (above_objects sum p below)

  pub stays_apart : Stays [] v w
  stays_apart = record {
    safe = λ name kept safe. record { sum = safe.sum; there = λ s may. safe.there s (object_apart name safe s may); above = leads_apart name.csum safe.above };
    same = λ name kept. object_apart name;
    right = λ name right. record {
      sum = right.sum;
      each = λ s may. right.each s (apart (path_of name) (Object name.kind name.csum) (place-object name.kind name.csum right.sum) (λ is. is) s may);
    };
    unmarked = λ commit kept safe none. record { each = λ s may. none.each s (apart (mark_path commit) (Mark commit) (place-mark commit safe.sum) (λ is. is) s may) };
  }
