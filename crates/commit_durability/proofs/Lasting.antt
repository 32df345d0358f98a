-- A commit that was made stays: by what each act keeps of the objects.
use Rattle.std.proofs.Common.{◌≡◌, ◌⊎◌, inl, inr, ⊎_elim, ◌≤◌, ℕ, refl, sym, subst, arith, List, []}
use Rattle.ost_types.specs.declared.limits.Limits.{Limits}
use Rattle.ost_types.specs.declared.object.Kind.TheVariants.{Commit}
use Rattle.ost_forms.specs.declared.tree_item.TreeItem.{TreeItem}
use Rattle.ost_objects.specs.Object.{IsNamed}
use Rattle.fs_trait.specs.View.{Disk, View}
use Rattle.fs_trait.specs.Seen.{Seen, Vacant, Directory, Symlink, Leaf, shows}
use Rattle.repo_model.specs.Objects.{Store, Stores, IsMap, path_of}
use Rattle.repo_model.specs.Trees.{name_of}
use Rattle.repo_model.proofs.Named.{IsSum-named}
use Rattle.repo_model.proofs.Stored.{stores_map}
use Rattle.tree_build.specs.Objects.{Object}
use Rattle.tree_build.specs.Commits.{HasTree, CommitsTree}
use Rattle.tree_build.proofs.Shown.{complete, shows_same}
use Rattle.commit_build.specs.declared.message.Message.{Message}
use Rattle.commit_build.specs.Committing.{commit_of, named_commit, parts_of}
use Rattle.commit_build.specs.Steps as build
use Rattle.commit_build.specs.Steps.{AreSure, IsSure, NotLeaf}
use Rattle.commit_build.proofs.Named.{work_named}
use Rattle.rely_guarantee.specs.Disks.{IsLeaf}
use Rattle.rely_guarantee.specs.Lasting.{AlwaysStores, IsSafe, NeverMarked, Outlasts, Stays, StaysOn}
use Rattle.rely_guarantee.specs.Objects.{IsObjectSeen}
use Rattle.rely_guarantee.specs.Opening.{IsOpening}
use Rattle.rely_guarantee.specs.State.{State}
use Rattle.rely_guarantee.proofs.Beginnings.{opened_right}
use Rattle.rely_guarantee.proofs.Lasting.{always_named, always_one, none_out}
use Rattle.commit_durability.proofs.Holding.{held_by_all}
use Rattle.commit_durability.specs.Lasting.{AreRight, IsAloneIn, IsAloneOn, IsCommit, IsKept, IsOf, IsStored, LastsIn, StandsOn, sum_of}

named_of : (tree : List TreeItem) (message : Message) (o : Object) → IsOf tree message o → IsNamed o.name o.bytes
named_of tree message o (inl n) = work_named tree n.0 o n.1
named_of tree message o (inr e) = subst (λ (x : Object). IsNamed x.name x.bytes) (sym e) refl

module _ (limits : Limits) (tree : List TreeItem) (message : Message) where
  -- a store that has the objects
  stored_from : (S : Store) → IsMap S → IsCommit limits tree message → ((o : Object) → IsOf tree message o → S o.name o.bytes) → IsStored S limits tree message
  stored_from S one is objects = record {
    objects = objects;
    complete = complete S limits tree (sum_of tree message) has commits;
    shown = shows_same S limits tree (sum_of tree message) has commits;
  }
    where
      has : HasTree S limits tree
      has = record {
        one = one;
        ordered = is.items;
        typed = is.typed;
        tree = is.whole;
        makeable = is.makeable;
        objects = λ o among. objects o (inl (among.0, (among.1, among.2)));
      }

      commits : CommitsTree S tree (sum_of tree message)
      commits = record {
        parts = parts_of tree message;
        here = record { bytes = (commit_of tree message).bytes; stored = objects (commit_of tree message) (inr refl); reads = is.reads };
        tree = refl;
        meta = refl;
      }

  always_stored : (v : View) → IsCommit limits tree message → ((o : Object) → IsOf tree message o → IsSafe v o.name) → AreRight v tree message → IsAloneIn v tree message → IsStored (AlwaysStores v) limits tree message
  always_stored v is safe right alone = stored_from (AlwaysStores v) (always_one v) is
      (λ o of. always_named v o.name o.bytes (safe o of) (right o of) (named_of tree message o of) (alone o of))

  disk_stored : (d : Disk) → IsCommit limits tree message → ((o : Object) → IsOf tree message o → IsObjectSeen o.name.kind o.name.csum (shows d (path_of o.name))) → IsAloneOn d tree message → IsStored (Stores d) limits tree message
  disk_stored d is there alone = stored_from (Stores d) (stores_map d) is
      (λ o of. let seen = there o of in
      let has : Stores d o.name seen.bytes = record { there = seen.holds; named = seen.named } in
      subst (Stores d o.name) (alone o of seen.bytes has) has)

  lasts_from : (v : View) → IsCommit limits tree message → ((o : Object) → IsOf tree message o → IsSafe v o.name) → AreRight v tree message → NeverMarked (sum_of tree message) v → LastsIn limits tree message v
  lasts_from v is safe right unmarked = record { commit = is; safe = safe; right = right; unmarked = unmarked; held = held_by_all tree message limits v is (λ n o number. safe o (inl (n, number))); stored = always_stored v is safe right }

  commit_safe : (v : View) → LastsIn limits tree message v → IsSafe v (name_of Commit (sum_of tree message))
  commit_safe v lasts = lasts.safe (commit_of tree message) (inr refl)

  pub lasts_stays : (v w : View) → Stays [] v w → LastsIn limits tree message v → LastsIn limits tree message w
  lasts_stays v w stays lasts = lasts_from w lasts.commit
      (λ o of. stays.safe o.name (none_out o.name) (lasts.safe o of))
      (λ o of. stays.right o.name (lasts.right o of))
      (stays.unmarked (sum_of tree message) (none_out (name_of Commit (sum_of tree message))) (commit_safe v lasts) lasts.unmarked)

  -- on a disk that a crash left since
  pub lasts_left : (v : View) (d : Disk) → StaysOn [] v d → LastsIn limits tree message v → StandsOn limits tree message d
  lasts_left v d on lasts = record { there = there; unmarked = on.unmarked (sum_of tree message) (none_out (name_of Commit (sum_of tree message))) (commit_safe v lasts) lasts.unmarked; stored = disk_stored d lasts.commit there }
    where
      there : (o : Object) → IsOf tree message o → IsObjectSeen o.name.kind o.name.csum (shows d (path_of o.name))
      there o of = ⊎_elim
          (λ none. absurd ((lasts.safe o of).there (shows d (path_of o.name)) (on.same o.name (none_out o.name) (lasts.safe o of)) none))
          (λ is. is)
          (on.right o.name (lasts.right o of))

  -- what the build tells at its end
  no_leaf : (s : Seen) → NotLeaf s → IsLeaf s → ⊥
  no_leaf Vacant none leaf = leaf
  no_leaf (Directory m) none leaf = leaf
  no_leaf (Symlink m t) none leaf = none
  no_leaf (Leaf n m b) none leaf = none

  pub lasts_made : (v : View) → IsCommit limits tree message → AreSure tree v → IsSure v (named_commit (sum_of tree message)) → build.NeverMarked (sum_of tree message) v → AreRight v tree message → LastsIn limits tree message v
  lasts_made v is sure itself unmarked right = lasts_from v is safe right (record { each = λ s may leaf. no_leaf s (unmarked.each s may) leaf })
    where
      from_sure : (o : Object) → IsOf tree message o → IsSure v o.name → IsSafe v o.name
      from_sure o of s = record { sum = IsSum-named o.name o.bytes (named_of tree message o of); there = s.there; above = s.above }

      safe : (o : Object) → IsOf tree message o → IsSafe v o.name
      safe o (inl n) = from_sure o (inl n) (sure.each n.0 o n.1)
      safe o (inr e) = from_sure o (inr e) (subst (λ (x : Object). IsSure v x.name) (sym e) itself)

  module _ {F : Type 0} (clock : F → ℕ) (was : F → ℕ → View → Type 0) (old new : F) (v w : View) (act : Outlasts [] clock was old new v w) where
    -- from the act on that made it
    pub kept_begins : (moment : ℕ) → clock old ≤ moment → LastsIn limits tree message v → IsKept (was new) limits tree message moment w
    kept_begins moment late lasts = record {
      now = lasts_stays v w act.now lasts;
      since = λ t d from left. lasts_left v d (act.since t d (omega (arith, late, from)) left) lasts;
    }

    -- over each further act
    pub kept_on : (moment : ℕ) → IsKept (was old) limits tree message moment v → IsKept (was new) limits tree message moment w
    kept_on moment kept = record {
      now = lasts_stays v w act.now kept.now;
      since = λ t d from left. ⊎_elim (λ before. kept.since t d from before) (λ on. lasts_left v d on kept.now) (act.earlier t d left);
    }

-- what each crash leaves of an opening is what stands on the disk
pub right_opened : (state : State) (v : View) (tree : List TreeItem) (message : Message) → IsOpening state v
    → ((o : Object) → IsOf tree message o → (shows v.now (path_of o.name) ≡ Vacant) ⊎ IsObjectSeen o.name.kind o.name.csum (shows v.now (path_of o.name))) → AreRight v tree message
right_opened state v tree message begins each o of = opened_right state v begins o.name (IsSum-named o.name o.bytes (named_of tree message o of)) (each o of)
