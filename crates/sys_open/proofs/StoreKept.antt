-- What an opening leaves of objects, commits and refs.
use Rattle.std.proofs.Common.{◌≡◌, ◌⊎◌, inl, inr, ⊎_elim, ℕ, sym, ◌∙◌, ap, subst, List}
use Rattle.ost_types.specs.declared.limits.Limits.{Limits}
use Rattle.ost_types.specs.declared.object.Kind.TheVariants as kind
use Rattle.ost_types.specs.declared.object.ObjName.{ObjName}
use Rattle.fs_trait.specs.View.{Disk}
use Rattle.fs_trait.specs.Seen.{seen, shows, bytes_in}
use Rattle.fs_trait.proofs.Claims.{reads_shows}
use Rattle.fs_trait.proofs.Facts.{vacant_absent}
use Rattle.repo_layout.specs.Paths.{config_path, mark_path, ref_path}
use Rattle.repo_layout.specs.RefFile.{IsSum}
use Rattle.repo_layout.specs.Refs.{Names}
use Rattle.repo_model.specs.Objects.{Marked, Stores, path_of}
use Rattle.repo_model.specs.Trees.{name_of}
use Rattle.repo_model.proofs.Grown.{complete_up, has_up}
use Rattle.repo_model.proofs.Named.{IsSum-named}
use Rattle.repo_model.proofs.Stored.{stores_map, stores_same}
use Rattle.store_check.specs.Commits.{IsFinished, IsWhole}
use Rattle.store_check.specs.Good.{IsGoodStore}
use Rattle.store_check.specs.Listing.{AreAll, IsThere}
use Rattle.store_check.specs.Objects.{IsSound}
use Rattle.rely_guarantee.specs.Disks.{IsLeaf}
use Rattle.layout_rules.specs.Checks.{IsSane}
use Rattle.layout_rules.proofs.Sanes.{ref_below}
use Rattle.sys_open.specs.Changes.{Changes, Keeps}
use Rattle.sys_open.specs.Damages.{HasConfig, IsGood, ShowsConfig}
use Rattle.sys_open.proofs.Beginning.{leaf_shown, leaf_value, leaf_was}
use Rattle.sys_open.proofs.Holding.{commit_leaf}
use Rattle.sys_open.proofs.ChangedPlaces.{config_put, mark_unchanged, object_unchanged}
use Rattle.sys_open.proofs.Goods.{can_go_of, config_of, deployments_of, good_of, list_of, sane_of, store_of}
use Rattle.sys_open.proofs.DeploymentsKept.{deployment_kept, row_of}
use Rattle.sys_open.proofs.ListKept.{rows_kept}
use Rattle.sys_open.proofs.Reopening.{reached_kept, still_sane}

module _ (d e : Disk) (keeps : Keeps d e) where
  pub object_same : (name : ObjName) → IsSum name.csum → shows e (path_of name) ≡ shows d (path_of name)
  object_same name sum = ⊎_elim (λ same. same) (λ changes. absurd (object_unchanged d name (shows e (path_of name)) sum changes)) (keeps (path_of name))

  mark_same : (commit : List ℕ) → IsSum commit → shows e (mark_path commit) ≡ shows d (mark_path commit)
  mark_same commit sum = ⊎_elim (λ same. same) (λ changes. absurd (mark_unchanged d commit (shows e (mark_path commit)) sum changes)) (keeps (mark_path commit))

  stores_on : (name : ObjName) (b : List ℕ) → Stores d name b → Stores e name b
  stores_on name b stored = stores_same d e name b (object_same name (IsSum-named name b stored.named)) stored

  there_was : (name : ObjName) → IsThere e name → IsThere d name
  there_was name is = record { sum = is.sum; there = λ none. is.there (vacant_absent e (path_of name) (object_same name is.sum ∙ ap (seen d) none)) }

  there_is : (name : ObjName) → IsThere d name → IsThere e name
  there_is name is = record { sum = is.sum; there = λ none. is.there (vacant_absent d (path_of name) (sym (object_same name is.sum) ∙ ap (seen e) none)) }

  -- all objects are still there, and no more
  pub all_kept : (names : List ObjName) → AreAll d names → AreAll e names
  all_kept names all = record { ascending = all.ascending; here = λ name has. there_is name (all.here name has); all = λ name is. all.all name (there_was name is) }

  marked_was : (commit : List ℕ) → IsSum commit → Marked d commit → Marked e commit
  marked_was commit sum marked = leaf_value e (e.at (mark_path commit)) (subst IsLeaf (sym (mark_same commit sum)) (leaf_shown d (d.at (mark_path commit)) marked))

  marked_is : (commit : List ℕ) → IsSum commit → Marked e commit → Marked d commit
  marked_is commit sum marked = leaf_value d (d.at (mark_path commit)) (subst IsLeaf (mark_same commit sum) (leaf_shown e (e.at (mark_path commit)) marked))

  finished_was : (commit : List ℕ) → IsSum commit → IsFinished e commit → IsFinished d commit
  finished_was commit sum is = record {
    there = (there_was (name_of kind.Commit commit) (record { sum = sum; there = is.there })).there;
    unmarked = λ marked. is.unmarked (marked_was commit sum marked);
  }

  finished_is : (commit : List ℕ) → IsSum commit → IsFinished d commit → IsFinished e commit
  finished_is commit sum is = record {
    there = (there_is (name_of kind.Commit commit) (record { sum = sum; there = is.there })).there;
    unmarked = λ marked. is.unmarked (marked_is commit sum marked);
  }

  sound_kept : (content : ℕ) (name : ObjName) → IsSound d content name → IsSound e content name
  sound_kept content name sound is = has_up (Stores d) (Stores e) stores_on content name (sound (there_was name is))

  whole_kept : (limits : Limits) (commit : List ℕ) → IsWhole d limits commit → IsWhole e limits commit
  whole_kept limits commit whole sum finished = complete_up (Stores d) (Stores e) stores_on (stores_map e) limits commit (whole sum (finished_was commit sum finished))

  config_kept : HasConfig d → HasConfig e
  config_kept has = by has (keeps config_path)
    where
      by : HasConfig d → (shows e config_path ≡ shows d config_path) ⊎ Changes d config_path (shows e config_path) → HasConfig e
      by (inl none) (inl same) = inl (same ∙ none)
      by (inr is) (inl same) = inr (subst ShowsConfig (sym same) is)
      by has (inr changes) = inr (config_put d (shows e config_path) changes)

  pub names_was : IsSane d → (name commit : List ℕ) → Names e name commit → Names d name commit
  names_was sane name commit names =
      let same = (leaf_was d e sane keeps (ref_path name) (ref_below name) (commit_leaf e (ref_path name) commit names)).0 in
      record { sum = names.sum; file = reads_shows d (ref_path name) ∙ ap bytes_in (sym same) ∙ sym (reads_shows e (ref_path name)) ∙ names.file }

  pub store_kept : (limits : Limits) → IsSane d → IsGoodStore limits d → IsGoodStore limits e
  store_kept limits sane store = record {
    sound = λ name. sound_kept limits.content name (store.sound name);
    few = record { names = store.few.names; are = all_kept store.few.names store.few.are; few = store.few.few };
    whole = λ commit. whole_kept limits commit (store.whole commit);
    founded = λ name commit names. finished_is commit names.sum (store.founded name commit (names_was sane name commit names));
  }

  -- What keeps a good disk is good.
  pub still_good : (limits : Limits) → IsGood limits d → IsGood limits e
  still_good limits good =
      let sane = sane_of limits d good in
      let list = list_of limits d good in
      good_of limits e (still_sane d e sane keeps) (config_kept (config_of limits d good)) (store_kept limits sane (store_of limits d good)) list.0 (rows_kept d e keeps list.0 list.1)
      (λ row among. deployment_kept row.id row.bootcsum limits d e keeps (row_of d list.0 row list.1 among) (deployments_of limits d good list.0 list.1 row among))
      (λ p lies. reached_kept d e sane keeps p (can_go_of limits d good p lies))
