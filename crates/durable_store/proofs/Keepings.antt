-- Runs of acts: each disk that a crash left is good.
use Rattle.std.proofs.Common.{◌≡◌, ⊎_elim, ℕ, ◌≤◌, sym, ◌∙◌, subst, arith, List, length, Option, Some}
use Rattle.ost_types.specs.declared.limits.Limits.{Limits}
use Rattle.ost_types.specs.declared.object.ObjName.{ObjName}
use Rattle.fs_trait.specs.View.{Disk, View}
use Rattle.fs_trait.specs.Image.{Image}
use Rattle.fs_trait.specs.Seen.{Seen}
use Rattle.fs_trait.specs.Effect.{Elapses}
use Rattle.fs_trait.proofs.Claims.{passes}
use Rattle.repo_layout.specs.declared.folder.Folder.{Folder}
use Rattle.repo_layout.specs.declared.folder.Folder.TheVariants.{Repo, State}
use Rattle.repo_layout.specs.Paths.{folder_path}
use Rattle.repo_model.specs.Objects.{Store}
use Rattle.rely_guarantee.specs.SystemInvariant.{Leads}
use Rattle.store_check.specs.Good.{IsGoodStore}
use Rattle.durable_store.specs.Keeping.{IsGoodDisk, KeepsGood}
use Rattle.durable_store.specs.Brought.{NoHashCollisionOn}
use Rattle.durable_store.specs.Standing.{StoreStands}
use Rattle.durable_store.proofs.Images.{config_image, few_image, founded_image, sound_image, whole_image}
use Rattle.durable_store.proofs.Steps.{stands_wider}

pub disk_good : (limits : Limits) (brings : Store) (config : Seen → Type 0) (names : List ObjName) (v : View) → StoreStands limits brings config names v → length names ≤ limits.objects → ((f : Folder) → Leads v (folder_path f))
    → (d : Disk) → Image v d → IsGoodDisk limits brings config d
disk_good limits brings config names v stands few leads d i = record {
  sound = sound_image limits brings config names v stands d i;
  few = few_image limits brings config names v stands d i limits.objects few;
  founded = founded_image limits brings config names v stands d i;
  same = config_image limits brings config names v stands d i (leads Repo);
  whole = whole_image limits brings config names v stands d i (leads State);
}

-- so an opening finds nothing wrong with its store
pub good_store : (limits : Limits) (brings : Store) (config : Seen → Type 0) (d : Disk) → IsGoodDisk limits brings config d → NoHashCollisionOn brings d → IsGoodStore limits d
good_store limits brings config d good alone = record { sound = good.sound; few = good.few; whole = good.whole alone; founded = good.founded }

-- where more is brought
pub good_wider : (was : ℕ → View → Type 0) (limits : Limits) (brings more : Store) (config : Seen → Type 0) (names : List ObjName) (moment : ℕ) (v : View) → ((name : ObjName) (b : List ℕ) → brings name b → more name b)
    → KeepsGood was limits brings config names moment v → KeepsGood was limits more config names moment v
good_wider was limits brings more config names moment v wider keeps = record {
  now = stands_wider limits brings more config names v wider keeps.now;
  few = keeps.few;
  since = λ t d from left. let good = keeps.since t d from left in
      record { sound = good.sound; few = good.few; founded = good.founded; same = good.same; whole = λ alone. good.whole (λ name b other is stored. alone name b other (wider name b is) stored) };
}

module _ {F : Type 0} (view : F → Option View) (clock : F → ℕ) (was : F → ℕ → View → Type 0) (only_now : (fs : F) (t : ℕ) (v : View) → clock fs ≤ t → was fs t v → view fs ≡ Some v) where
  same_told : (fs : F) (u v : View) → view fs ≡ Some u → view fs ≡ Some v → u ≡ v
  same_told fs u v is told = let e : Some u ≡ Some v = sym is ∙ told in cc

  -- from now on
  pub good_begins : (limits : Limits) (brings : Store) (config : Seen → Type 0) (names : List ObjName) (fs : F) (v : View) (moment : ℕ) → view fs ≡ Some v → clock fs ≤ moment
      → StoreStands limits brings config names v → length names ≤ limits.objects → ((f : Folder) → Leads v (folder_path f)) → KeepsGood (was fs) limits brings config names moment v
  good_begins limits brings config names fs v moment told late stands few leads = record {
    now = stands;
    few = few;
    since = λ t d from left.
        let is = same_told fs left.0 v (only_now fs t left.0 (omega (arith, late, from)) left.1) told in
        disk_good limits brings config names v stands few leads d (subst (λ u. Image u d) is left.2);
  }

  -- over one act
  pub good_on : (limits : Limits) (brings : Store) (config : Seen → Type 0) (names next : List ObjName) (old new : F) (v w : View) (moment : ℕ) → view new ≡ Some w → Elapses (clock old) (clock new) (was old) (was new) (view new)
      → KeepsGood (was old) limits brings config names moment v → StoreStands limits brings config next w → length next ≤ limits.objects → ((f : Folder) → Leads w (folder_path f)) → KeepsGood (was new) limits brings config next moment w
  good_on limits brings config names next old new v w moment told time keeps stands few leads = record {
    now = stands;
    few = few;
    since = λ t d from left. ⊎_elim
        (λ before. keeps.since t d from before)
        (λ here. disk_good limits brings config next w stands few leads d (subst (λ u. Image u d) (same_told new here.0 w here.1 told) here.2))
        ((passes (clock old) (clock new) (was old) (was new) (view new) (only_now new) time).nothing_else t d left);
  }
