-- What a crash leaves of a store that stands so.
use Rattle.std.proofs.Common.{◌≡◌, ◌≢◌, inl, inr, ⊎_elim, ℕ, ◌≤◌, Bool, true, false, refl, sym, ◌∙◌, ap, subst, arith, List, [], ◌++◌, length, Some, None}
use Rattle.std.specs.Prelude.{Contains, codes}
use Rattle.std.specs.List.{filter}
use Rattle.ost_types.specs.Csum.{hex_of}
use Rattle.ost_types.specs.declared.limits.Limits.{Limits}
use Rattle.ost_types.specs.declared.object.Kind.TheVariants.{Commit}
use Rattle.ost_types.specs.declared.object.ObjName.{ObjName}
use Rattle.ost_types.specs.Path.{Path, under}
use Rattle.fs_trait.specs.declared.types.Value.{Value}
use Rattle.fs_trait.specs.declared.types.Value.TheVariants.{Absent, Folder, Link, File}
use Rattle.fs_trait.specs.View.{Disk, View}
use Rattle.fs_trait.specs.Image.{Image}
use Rattle.fs_trait.specs.Seen.{Seen, Vacant, seen, shows, MayBe}
use Rattle.fs_trait.proofs.Claims.{Image-may, Image-under, Image-folder, reads_shows}
use Rattle.fs_trait.proofs.Facts.{vacant_absent}
use Rattle.repo_layout.specs.declared.folder.Folder.TheVariants.{Repo, State}
use Rattle.repo_layout.specs.Paths.{config_path, folder_path, mark_path, ref_path}
use Rattle.repo_layout.specs.RefFile.{IsSum}
use Rattle.repo_layout.specs.Refs.{Names}
use Rattle.repo_model.specs.Objects.{Store, Stores, object_in, path_of}
use Rattle.repo_model.specs.Trees.{name_of}
use Rattle.repo_model.specs.Whole.{Complete}
use Rattle.tree_build.specs.Objects.{Object}
use Rattle.reach.specs.Reach.{Is, Reach}
use Rattle.reach.proofs.Reaching.{reach_back, reach_kind, reach_up}
use Rattle.obj_store.specs.Lookup.{is_there}
use Rattle.store_check.specs.Listing.{IsThere, HasFew}
use Rattle.store_check.specs.Objects.{IsSound}
use Rattle.store_check.specs.Commits.{IsFinished, IsWhole}
use Rattle.rely_guarantee.specs.Disks.{IsLeaf, Says}
use Rattle.rely_guarantee.specs.Lasting.{IsSafe, StaysOn}
use Rattle.rely_guarantee.specs.SystemInvariant.{Leads}
use Rattle.rely_guarantee.specs.State.{RefOf}
use Rattle.rely_guarantee.proofs.Lasting.{none_out, stays_image}
use Rattle.rely_guarantee.proofs.Openings.{leaf_value}
use Rattle.rely_guarantee.proofs.States.{says_leaf}
use Rattle.durable_store.specs.Brought.{NoHashCollisionOn, Having, MayRight}
use Rattle.durable_store.specs.Standing.{IsHeld, IsKeptWhole, StoreStands}
use Rattle.durable_store.proofs.Wholes.{whole_left}
use Rattle.durable_store.proofs.Names.{kept_ascends, kept_contains, contains_kept, kept_few}

-- whether something stands there
pub there_true : (x : Value) → x ≢ Absent → is_there x ≡ true
there_true Absent there = absurd (there refl)
there_true (Folder m) there = refl
there_true (Link m t) there = refl
there_true (File n) there = refl

pub true_there : (x : Value) → is_there x ≡ true → x ≢ Absent
true_there x is none = let n : false ≡ true = sym (ap is_there none) ∙ is in cc

mark_under : (commit : List ℕ) → mark_path commit ≡ under (folder_path State) (hex_of commit ++ codes ".commitpartial")
unfolding mark_path
mark_under commit = refl

leaf_there : (s : Seen) → IsLeaf s → s ≢ Vacant
leaf_there s leaf none = let bad : IsLeaf Vacant = subst IsLeaf none leaf in bad

module _ (limits : Limits) (brings : Store) (config : Seen → Type 0) (names : List ObjName) (v : View) (stands : StoreStands limits brings config names v) (d : Disk) (i : Image v d) where
  may_show : (p : Path) → shows d p ≢ Vacant → MayBe v p (shows d p)
  may_show p there = ⊎_elim (λ may. may) (λ none. absurd (there none)) (Image-may v d i p)

  shown_there : (p : Path) → d.at p ≢ Absent → shows d p ≢ Vacant
  shown_there p there none = there (vacant_absent d p none)

  on : StaysOn [] v d
  on = stays_image v d i

  pub sound_image : (name : ObjName) → IsSound d limits.content name
  sound_image name is =
      let there = shown_there (path_of name) is.there in
      let it = stands.objects name is.sum (shows d (path_of name)) (may_show (path_of name) there) there in
      record { bytes = it.bytes; stored = record { there = it.holds; named = it.named }; formed = it.formed }

  abbrev stands_at : ObjName → Bool
  stands_at name = is_there (d.at (path_of name))

  pub few_image : (most : ℕ) → length names ≤ most → HasFew d most
  few_image most few = record {
    names = filter stands_at names;
    are = record {
      ascending = kept_ascends stands_at names stands.listed.ascending;
      here = λ name has. let k = contains_kept stands_at name names has in
          record { sum = stands.listed.sums name k.0; there = true_there (d.at (path_of name)) k.1 };
      all = λ name is. let there = shown_there (path_of name) is.there in
          kept_contains stands_at name names (stands.listed.all name is.sum (shows d (path_of name)) (may_show (path_of name) there) there) (there_true (d.at (path_of name)) is.there);
    };
    few = omega (arith, few, kept_few stands_at names);
  }

  safe_there : (name : ObjName) → IsSafe v name → IsThere d name
  safe_there name safe = record { sum = safe.sum; there = λ none. safe.there (shows d (path_of name)) (on.same name (none_out name) safe) (ap (seen d) none) }

  pub founded_image : (name commit : List ℕ) → Names d name commit → IsFinished d commit
  founded_image name commit names_it =
      let says : Says (RefOf name) (Some commit) (shows d (ref_path name)) = (names_it.sum, sym (reads_shows d (ref_path name)) ∙ names_it.file) in
      let finished = stands.founded name commit (shows d (ref_path name)) (may_show (ref_path name) (leaf_there (shows d (ref_path name)) (says_leaf name commit _ says))) says in
      record { there = (safe_there (name_of Commit commit) finished.there).there; unmarked = on.unmarked commit (none_out (name_of Commit commit)) finished.there finished.unmarked }

  pub config_image : Leads v (folder_path Repo) → config (shows d config_path)
  config_image leads = stands.settled (shows d config_path) (Image-under v d i (folder_path Repo) (codes "config") (Image-folder v d i (folder_path Repo) leads))

  mark_may : Leads v (folder_path State) → (commit : List ℕ) → MayBe v (mark_path commit) (shows d (mark_path commit))
  mark_may leads commit = subst (λ p. MayBe v p (shows d p)) (sym (mark_under commit)) (Image-under v d i (folder_path State) (hex_of commit ++ codes ".commitpartial") (Image-folder v d i (folder_path State) leads))

  -- a commit of brought bytes, on a disk where no other bytes have their names
  module _ (commit : List ℕ) (sum : IsSum commit) (held : IsHeld limits brings v commit) (alone : NoHashCollisionOn brings d) (finished : IsFinished d commit) where
    abbrev objects : List Object
    objects = held.objects

    abbrev itself : ObjName
    itself = name_of Commit commit

    -- what the disk has of them
    abbrev Here : Store
    Here name b = Having objects name b × Stores d name b

    stored_shown : (name : ObjName) (b : List ℕ) → Stores d name b → shows d (path_of name) ≢ Vacant
    stored_shown name b has e = let n : None ≡ Some b = sym (ap (object_in name.kind) e) ∙ has.there in cc

    -- is right, so what it leads to is there
    right_here : (name : ObjName) (b : List ℕ) → Here name b → MayRight v objects name b
    right_here name b has = (has.0, shows d (path_of name), may_show (path_of name) (stored_shown name b has.1), has.1.there)

    reached_there : (name : ObjName) → Reach Here (Is itself) name → IsThere d name
    reached_there name reached = ⊎_elim
        (λ e. subst (IsThere d) (sym e) (record { sum = sum; there = finished.there }))
        (λ plain. safe_there name (held.held name plain (reach_up Here (MayRight v objects) (Is itself) (Is itself) (λ x e. e) right_here name reached)))
        (reach_kind Here (Is itself) name reached)

    brought : (name : ObjName) (b : List ℕ) → Having objects name b → brings name b
    brought name b (o, among, named, same) = subst (brings name) same (subst (λ x. brings x o.bytes) named (held.brought o among))

    reached_kept : (name : ObjName) (b : List ℕ) → Reach Here (Is itself) name → Having objects name b → Stores d name b
    reached_kept name b reached of =
        let has = sound_image name (reached_there name reached) in
        subst (Stores d name) (alone name b has.bytes (brought name b of) has.stored) has.stored

    all_here : (o : Object) → Contains objects o → Stores d o.name o.bytes
    all_here o among =
        let of : Having objects o.name o.bytes = (o, among, refl, refl) in
        let over = (held.is.reached o.name).1 (o.bytes, of) in
        reached_kept o.name o.bytes (reach_back Here (Having objects) (Is itself) (λ x b reached there. (there, reached_kept x b reached there)) o.name over) of

    held_left : Complete (Stores d) limits commit
    held_left = held.is.whole d all_here

  pub whole_image : Leads v (folder_path State) → NoHashCollisionOn brings d → (commit : List ℕ) → IsWhole d limits commit
  whole_image leads alone commit sum finished = by (stands.commits commit sum)
    where
      by : IsKeptWhole limits brings v commit → Complete (Stores d) limits commit
      by (inl marked) = absurd (finished.unmarked (leaf_value d (d.at (mark_path commit)) (marked (shows d (mark_path commit)) (mark_may leads commit))))
      by (inr (inl never)) =
          let there = shown_there (path_of (name_of Commit commit)) finished.there in
          absurd (there (never (shows d (path_of (name_of Commit commit))) (may_show (path_of (name_of Commit commit)) there)))
      by (inr (inr (inl whole))) =
          let there = shown_there (path_of (name_of Commit commit)) finished.there in
          whole_left limits commit v d on whole there (may_show (path_of (name_of Commit commit)) there)
      by (inr (inr (inr held))) = held_left commit sum held alone finished
