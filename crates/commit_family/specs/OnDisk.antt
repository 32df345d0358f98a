-- A commit stands on a disk that a crash left, but for what was removed.
use Rattle.std.proofs.Common.{inl, inr, ⊎_elim, refl, sym, subst, List, ◌++◌, Contains}
use Rattle.std.proofs.lemmas.List.Elements.{Contains-append_left, Contains-append_right}
use Rattle.ost_types.specs.declared.limits.Limits.{Limits}
use Rattle.ost_types.specs.declared.object.ObjName.{ObjName}
use Rattle.ost_forms.specs.declared.tree_item.TreeItem.{TreeItem}
use Rattle.ost_objects.specs.Object.{IsNamed}
use Rattle.fs_trait.specs.Seen.{shows}
use Rattle.fs_trait.specs.View.{Disk, View}
use Rattle.repo_model.specs.Objects.{Marked, Stores, path_of}
use Rattle.repo_model.proofs.Stored.{stores_map}
use Rattle.tree_build.specs.Commits.{CommitsTree, HasTree}
use Rattle.tree_build.specs.Objects.{Object}
use Rattle.tree_build.proofs.Shown.{complete, shows_same}
use Rattle.commit_build.specs.declared.message.Message.{Message}
use Rattle.commit_build.specs.Committing.{commit_of, parts_of}
use Rattle.commit_build.proofs.Named.{work_named}
use Rattle.commit_durability.specs.Lasting.{IsAloneOn, IsCommit, IsOf, IsStored, StandsOn, sum_of}
use Rattle.rely_guarantee.specs.Lasting.{IsSafe, StaysOn}
use Rattle.rely_guarantee.specs.Objects.{IsObjectSeen}
use Rattle.commit_family.specs.Removed.{AreSpared, LastsBut, StandsBut}

module _ (limits : Limits) (tree : List TreeItem) (message : Message) where
  named : (o : Object) → IsOf tree message o → IsNamed o.name o.bytes
  named o (inl n) = work_named tree n.0 o n.1
  named o (inr e) = subst (λ (x : Object). IsNamed x.name x.bytes) (sym e) refl

  module _ (d : Disk) (is : IsCommit limits tree message) (there : (o : Object) → IsOf tree message o → IsObjectSeen o.name.kind o.name.csum (shows d (path_of o.name))) (alone : IsAloneOn d tree message) where
    stored : (o : Object) → IsOf tree message o → Stores d o.name o.bytes
    stored o of =
        let seen = there o of in
        let has : Stores d o.name seen.bytes = record { there = seen.holds; named = seen.named } in
        subst (Stores d o.name) (alone o of seen.bytes has) has

    has_tree : HasTree (Stores d) limits tree
    has_tree = record {
      one = stores_map d;
      ordered = is.items;
      typed = is.typed;
      tree = is.whole;
      makeable = is.makeable;
      objects = λ o among. stored o (inl (among.0, (among.1, among.2)));
    }

    commits : CommitsTree (Stores d) tree (sum_of tree message)
    commits = record {
      parts = parts_of tree message;
      here = record { bytes = (commit_of tree message).bytes; stored = stored (commit_of tree message) (inr refl); reads = is.reads };
      tree = refl;
      meta = refl;
    }

    disk_stored : IsStored (Stores d) limits tree message
    disk_stored = record {
      objects = stored;
      complete = complete (Stores d) limits tree (sum_of tree message) has_tree commits;
      shown = shows_same (Stores d) limits tree (sum_of tree message) has_tree commits;
    }

  -- from a view in which these were removed before to a disk that a crash left, where those were in between
  module _ (out removed : List ObjName) (v : View) (d : Disk) (on : StaysOn removed v d) (lasts : LastsBut out limits tree message v) where
    safe : (o : Object) → IsOf tree message o → ¬ (Contains (removed ++ out) o.name) → IsSafe v o.name
    safe o of still = lasts.safe o of (λ has. still (Contains-append_right removed out o.name has))

    left_there : (o : Object) → IsOf tree message o → ¬ (Contains (removed ++ out) o.name) → IsObjectSeen o.name.kind o.name.csum (shows d (path_of o.name))
    left_there o of still = ⊎_elim
        (λ none. absurd ((safe o of still).there (shows d (path_of o.name)) (on.same o.name (λ has. still (Contains-append_left removed out o.name has)) (safe o of still)) none))
        (λ seen. seen)
        (on.right o.name (lasts.right o of))

    left_unmarked : ¬ (Contains (removed ++ out) (commit_of tree message).name) → ¬ (Marked d (sum_of tree message))
    left_unmarked still =
        let it = (commit_of tree message).name in
        on.unmarked (sum_of tree message) (λ has. still (Contains-append_left removed out it has)) (safe (commit_of tree message) (inr refl) still) (lasts.unmarked (λ has. still (Contains-append_right removed out it has)))

    left_whole : AreSpared (removed ++ out) tree message → StandsOn limits tree message d
    left_whole spared = record {
      there = λ o of. left_there o of (spared o of);
      unmarked = left_unmarked (spared (commit_of tree message) (inr refl));
      stored = disk_stored d (lasts.whole (λ o of has. spared o of (Contains-append_right removed out o.name has))).commit (λ o of. left_there o of (spared o of));
    }

    pub stands_but : StandsBut (removed ++ out) limits tree message d
    stands_but = record { there = left_there; unmarked = left_unmarked; whole = left_whole }
