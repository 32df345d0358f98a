-- A commit whose objects are shown the same is as whole, and its tree the same.
use Rattle.std.proofs.Common.{◌≡◌, inl, inr, ℕ, List, Some, sym, subst}
use Rattle.ost_types.specs.declared.limits.Limits.{Limits}
use Rattle.ost_types.specs.declared.node.NodeName.TheVariants.{Leaf}
use Rattle.ost_types.specs.declared.object.Kind.{Kind}
use Rattle.ost_types.specs.declared.object.Kind.TheVariants.{Commit, DirTree, DirMeta, File}
use Rattle.ost_types.specs.declared.object.ObjName.{ObjName}
use Rattle.ost_types.specs.Path.{Path}
use Rattle.ost_types.specs.PathMap.{Nodes, node_at}
use Rattle.fs_trait.specs.View.{Disk}
use Rattle.fs_trait.specs.Seen.{Seen, Vacant, shows}
use Rattle.repo_layout.specs.RefFile.{IsSum}
use Rattle.repo_model.specs.Objects.{Has, Store, Stores, object_in, path_of}
use Rattle.repo_model.specs.Trees.{name_of}
use Rattle.repo_model.proofs.Named.{IsSum-named}
use Rattle.repo_model.proofs.Stored.{stores_same}
use Rattle.reach.specs.Reach.{Is, Reach, Refers, onward, start}
use Rattle.reach.proofs.Commits.{named_reached, reached_has}
use Rattle.reach.proofs.Parts.{commit_shows, commit_shown, commit_whole}
use Rattle.reach.proofs.Reaching.{reach_least}
use Rattle.tree_walk.specs.Standing.{IsLeaf, Standing, StandsAs}
use Rattle.tree_walk.proofs.Alike.{HasFolders, commit_up}
use Rattle.tree_walk.proofs.Rightly.{folders_down, folders_up}
use Rattle.tree_walk.proofs.Standings.{standing_map}
use Rattle.commit_checkout.proofs.TreeMaps.{leaf_is_named}
use Rattle.deployment_check.specs.Deployments.{IsWholeTree}
use Rattle.durable_deployments.specs.Standing.{IsReached}

-- ---- what is reached needs no file

module _ (S T : Store) (more : HasFolders S T) where
  refers_alike : (o next : ObjName) → Refers S o next → Refers T o next
  refers_alike o next (inl (c, is, has, of)) = inl (c, is, commit_up S T more o.csum c has, of)
  refers_alike o next (inr (e, is, has, entry)) = inr (
    e,
    is,
    record { bytes = has.bytes; stored = more (name_of DirTree o.csum) has.bytes (λ file. let no : DirTree ≡ File = file in cc) has.stored; reads = has.reads },
    entry,
  )

  reach_alike : (one o : ObjName) → Reach S (Is one) o → Reach T (Is one) o
  reach_alike one o reached = reach_least S (Is one) (Reach T (Is one)) (λ x is. start x is) (λ x next at refers. onward x next at (refers_alike x next refers)) o reached

pub reached_stored : (d : Disk) (commit : List ℕ) (o : ObjName) → Reach (Standing d) (Is (name_of Commit commit)) o → IsReached d commit o
reached_stored d commit = reach_alike (Standing d) (Stores d) (folders_up d) (name_of Commit commit)

pub reached_standing : (d : Disk) (commit : List ℕ) (o : ObjName) → IsReached d commit o → Reach (Standing d) (Is (name_of Commit commit)) o
reached_standing d commit = reach_alike (Stores d) (Standing d) (folders_down d) (name_of Commit commit)

-- ---- an object that stands

stands_same : (d e : Disk) (kind : Kind) (o : ObjName) (b : List ℕ) → shows e (path_of o) ≡ shows d (path_of o) → StandsAs kind d o b → StandsAs kind e o b
stands_same d e Commit o b same stands = stores_same d e o b same stands
stands_same d e DirTree o b same stands = stores_same d e o b same stands
stands_same d e DirMeta o b same stands = stores_same d e o b same stands
stands_same d e File o b same stands = (stands.0, subst IsLeaf (sym same) stands.1, stands.2)

stored_there : (kind : Kind) (s : Seen) (b : List ℕ) → object_in kind s ≡ Some b → s ≡ Vacant → ⊥
stored_there kind s b holds none = let no : object_in kind Vacant ≡ Some b = subst (λ x. object_in kind x ≡ Some b) none holds in cc

leaf_there : (s : Seen) → IsLeaf s → s ≡ Vacant → ⊥
leaf_there s leaf none = let no : IsLeaf Vacant = subst IsLeaf none leaf in no

stands_there : (d : Disk) (kind : Kind) (o : ObjName) (b : List ℕ) → StandsAs kind d o b → shows d (path_of o) ≡ Vacant → ⊥
stands_there d Commit o b stands = stored_there o.kind (shows d (path_of o)) b stands.there
stands_there d DirTree o b stands = stored_there o.kind (shows d (path_of o)) b stands.there
stands_there d DirMeta o b stands = stored_there o.kind (shows d (path_of o)) b stands.there
stands_there d File o b stands = leaf_there (shows d (path_of o)) stands.1

stands_sum : (d : Disk) (kind : Kind) (o : ObjName) (b : List ℕ) → StandsAs kind d o b → IsSum o.csum
stands_sum d Commit o b stands = IsSum-named o b stands.named
stands_sum d DirTree o b stands = IsSum-named o b stands.named
stands_sum d DirMeta o b stands = IsSum-named o b stands.named
stands_sum d File o b stands = stands.0

-- ---- a commit that is whole

module _ (limits : Limits) (d : Disk) (commit : List ℕ) (tree : Nodes) (is : IsWholeTree limits d commit tree) where
  has_reached : (o : ObjName) → IsReached d commit o → Has (Standing d) limits.content o
  has_reached o reached = reached_has (Standing d) (standing_map d) limits commit is.whole o (reached_standing d commit o reached)

  pub reached_there : (o : ObjName) → IsReached d commit o → shows d (path_of o) ≡ Vacant → ⊥
  reached_there o reached = let has = has_reached o reached in stands_there d o.kind o has.bytes has.stored

  pub reached_sum : (o : ObjName) → IsReached d commit o → IsSum o.csum
  reached_sum o reached = let has = has_reached o reached in stands_sum d o.kind o has.bytes has.stored

  pub leaf_reached : (p : Path) (sum : List ℕ) → node_at tree p ≡ Some (Leaf sum) → IsReached d commit (name_of File sum)
  leaf_reached p sum at = reached_stored d commit (name_of File sum) (named_reached (Standing d) commit is.whole.parts is.whole.here p (name_of File sum)
      (leaf_is_named (Standing d) (standing_map d) limits commit tree is.map is.whole is.shown p sum at))

  module _ (e : Disk) (same : (o : ObjName) → IsReached d commit o → shows e (path_of o) ≡ shows d (path_of o)) where
    kept : (o : ObjName) (b : List ℕ) → Reach (Standing d) (Is (name_of Commit commit)) o → Standing d o b → Standing e o b
    kept o b reached stands = stands_same d e o.kind o b (same o (reached_stored d commit o reached)) stands

    pub same_tree : IsWholeTree limits e commit tree
    same_tree = record {
      whole = commit_whole (Standing d) (Standing e) commit kept (standing_map e) limits is.whole;
      shown = λ p n. (
        λ among. commit_shows (Standing d) (Standing e) commit kept p n ((is.shown p n).0 among),
        λ shown. (is.shown p n).1 (commit_shown (Standing d) (Standing e) commit kept (standing_map e) limits is.whole p n shown),
      );
      map = is.map;
    }
