-- The beginning, on a disk that passed the checks.
use Rattle.std.proofs.Common.{◌≡◌, ◌≢◌, ◌⊎◌, inl, inr, ◌≤◌, ℕ, Bool, true, false, refl, sym, ◌∙◌, ap, subst, arith, List, length, Some}
use Rattle.ost_types.specs.declared.limits.Limits.{Limits}
use Rattle.ost_types.specs.declared.object.Kind.TheVariants.{Commit}
use Rattle.ost_types.specs.declared.object.ObjName.{ObjName}
use Rattle.ost_types.specs.Path.{Path}
use Rattle.fs_trait.specs.declared.types.Value.{Value}
use Rattle.fs_trait.specs.declared.types.Value.TheVariants.{Absent, Folder, Link, File}
use Rattle.fs_trait.specs.View.{Disk, View}
use Rattle.fs_trait.specs.Image.{IsTree}
use Rattle.fs_trait.specs.Seen.{Seen, Vacant, seen, shows, MayBe}
use Rattle.fs_trait.proofs.Claims.{reads_shows}
use Rattle.repo_layout.specs.Paths.{config_path, mark_path, ref_path}
use Rattle.repo_layout.specs.RefFile.{IsSum}
use Rattle.repo_layout.specs.Refs.{Names, is_leaf}
use Rattle.repo_model.specs.Objects.{Store, path_of}
use Rattle.repo_model.specs.Trees.{name_of}
use Rattle.tree_build.proofs.Lists.{among_contained, contained_among}
use Rattle.store_check.specs.Listing.{IsThere, AreAll, HasFew}
use Rattle.rely_guarantee.specs.Disks.{IsLeaf, Says}
use Rattle.rely_guarantee.specs.Opening.{IsOpening}
use Rattle.rely_guarantee.specs.State.{State, RefOf}
use Rattle.rely_guarantee.proofs.Beginnings.{opened_stored, opened_whole, opened_unmarked}
use Rattle.rely_guarantee.proofs.Goods.{leaf_seen}
use Rattle.rely_guarantee.proofs.Lasting.{always_safe}
use Rattle.store_check.specs.Good.{IsGoodStore}
use Rattle.rely_guarantee.specs.Lasting.{StaysFinished}
use Rattle.durable_store.specs.Standing.{IsKeptWhole, IsSoundSeen, StoreStands}
use Rattle.durable_store.proofs.Names.{few_among}
use Rattle.durable_store.proofs.Wholes.{whole_begins}

nothing_there : (x : Value) → (x ≡ Absent) ⊎ (x ≢ Absent)
nothing_there Absent = inl refl
nothing_there (Folder m) = inr (λ e. (let n_ : Folder m ≡ Absent = e in cc))
nothing_there (Link m t) = inr (λ e. (let n_ : Link m t ≡ Absent = e in cc))
nothing_there (File n) = inr (λ e. (let n_ : File n ≡ Absent = e in cc))

module _ (state : State) (v : View) (limits : Limits) (names : List ObjName) (begins : IsOpening state v) (tree : IsTree v.now) (good : IsGoodStore limits v.now) (all : AreAll v.now names) where
  only : (p : Path) (s : Seen) → MayBe v p s → s ≡ shows v.now p
  only p s may = (begins.settled p).each s may

  there_now : (name : ObjName) → IsSum name.csum → (s : Seen) → MayBe v (path_of name) s → s ≢ Vacant → IsThere v.now name
  there_now name sum s may there = record { sum = sum; there = λ none. there (only (path_of name) s may ∙ ap (seen v.now) none) }

  sound_now : (name : ObjName) → IsThere v.now name → IsSoundSeen limits.content name (shows v.now (path_of name))
  sound_now name there = let has = good.sound name there in record { bytes = has.bytes; holds = has.stored.there; named = has.stored.named; formed = has.formed }

  commit_now : (brings : Store) (commit : List ℕ) → IsSum commit → IsKeptWhole limits brings v commit
  commit_now brings commit sum = by_mark (is_leaf (v.now.at (mark_path commit))) refl (nothing_there (v.now.at (path_of (name_of Commit commit))))
    where
      by_mark : (b : Bool) → is_leaf (v.now.at (mark_path commit)) ≡ b → (v.now.at (path_of (name_of Commit commit)) ≡ Absent) ⊎ (v.now.at (path_of (name_of Commit commit)) ≢ Absent) → IsKeptWhole limits brings v commit
      by_mark true is there = inl (λ s may. subst IsLeaf (sym (only (mark_path commit) s may)) (leaf_seen v.now (v.now.at (mark_path commit)) is))
      by_mark false is (inl none) = inr (inl (λ s may. only (path_of (name_of Commit commit)) s may ∙ ap (seen v.now) none))
      by_mark false is (inr there) = inr (inr (inl (whole_begins limits v commit (opened_whole state v begins tree limits commit
          (good.whole commit sum (record { there = there; unmarked = λ marked. (let n : true ≡ false = sym marked ∙ is in cc) }))))))

  founded_now : (name commit : List ℕ) (s : Seen) → MayBe v (ref_path name) s → Says (RefOf name) (Some commit) s → StaysFinished v commit
  founded_now name commit s may says =
      let here : Says (RefOf name) (Some commit) (shows v.now (ref_path name)) = subst (Says (RefOf name) (Some commit)) (only (ref_path name) s may) says in
      let names_it : Names v.now name commit = record { sum = here.0; file = reads_shows v.now (ref_path name) ∙ here.1 } in
      let finished = good.founded name commit names_it in
      let has = good.sound (name_of Commit commit) (record { sum = here.0; there = finished.there }) in
      record {
        there = always_safe v (name_of Commit commit) has.bytes (opened_stored state v begins tree (name_of Commit commit) has.bytes has.stored);
        unmarked = opened_unmarked state v begins commit finished.unmarked;
      }

  pub stands_begin : (brings : Store) (config : Seen → Type 0) → config (shows v.now config_path) → StoreStands limits brings config names v
  stands_begin brings config is = record {
    objects = λ name sum s may there. subst (IsSoundSeen limits.content name) (sym (only (path_of name) s may)) (sound_now name (there_now name sum s may there));
    listed = record {
      ascending = all.ascending;
      sums = λ name has. (all.here name has).sum;
      all = λ name sum s may there. all.all name (there_now name sum s may there);
    };
    commits = commit_now brings;
    founded = founded_now;
    settled = λ s may. subst config (sym (only config_path s may)) is;
  }

-- all objects of a disk are as few as any list of them says
pub few_all : (d : Disk) (names : List ObjName) (most : ℕ) → AreAll d names → HasFew d most → length names ≤ most
few_all d names most are few = omega (
  arith,
  few.few,
  few_among few.names names few.are.ascending are.ascending
      (λ a among. contained_among a few.names (few.are.all a (are.here a (among_contained a names among)))),
)
