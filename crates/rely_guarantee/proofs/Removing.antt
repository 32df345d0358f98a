-- What others have pinned, and what the state names, stays with all that is reached from it, whoever removes objects.
use Rattle.std.proofs.Common.{◌≡◌, ◌≢◌, inl, inr, ⊎_elim, ℕ, List, [], Contains, Some, None, refl, sym, ◌∙◌, ap, subst}
use Rattle.ost_types.specs.declared.limits.Limits.{Limits}
use Rattle.ost_types.specs.declared.node.NodeName.{NodeName}
use Rattle.ost_types.specs.declared.object.Kind.{Kind}
use Rattle.ost_types.specs.declared.object.Kind.TheVariants.{Commit}
use Rattle.ost_types.specs.declared.object.ObjName.{ObjName}
use Rattle.ost_types.specs.Path.{Path}
use Rattle.fs_trait.specs.View.{View}
use Rattle.fs_trait.specs.Seen.{Seen, Vacant, shows, MayBe}
use Rattle.fs_trait.specs.Change.{Writes, LeadsTo}
use Rattle.fs_trait.proofs.Effects.{may_now}
use Rattle.fs_trait.proofs.Kept.{firm_kept}
use Rattle.repo_layout.specs.Paths.{mark_path, objects_folder_path}
use Rattle.repo_layout.specs.Place.{Object}
use Rattle.repo_layout.specs.RefFile.{IsSum}
use Rattle.repo_layout.proofs.Places.{place-mark, place-object}
use Rattle.repo_model.specs.Objects.{Stores, object_in, path_of}
use Rattle.repo_model.specs.Trees.{TreeShows, name_of}
use Rattle.repo_model.specs.Whole.{Complete}
use Rattle.repo_model.proofs.Named.{IsSum-named}
use Rattle.repo_model.proofs.Stored.{stores_map, stores_same}
use Rattle.reach.specs.Reach.{Is, Reach}
use Rattle.reach.proofs.Parts.{commit_shows, commit_whole}
use Rattle.reach.proofs.Reaching.{reach_stays, reach_up}
use Rattle.rely_guarantee.specs.Books.{Books, Free, Keeps, Spared}
use Rattle.rely_guarantee.specs.Disks.{path_of as topic_path, Says}
use Rattle.rely_guarantee.specs.Lasting.{IsSafe, NeverMarked, Stays}
use Rattle.rely_guarantee.specs.Rely.{Guarantee}
use Rattle.rely_guarantee.specs.Removing.{IsGuarded, IsPinned, IsRoot}
use Rattle.rely_guarantee.specs.State.{Topic, Said, commits_of}
use Rattle.rely_guarantee.proofs.Lasting.{leads_harmless, next_doomed, no_vacant_leaf, unmarked_stays}
use Rattle.rely_guarantee.proofs.Mays.{at_place}

-- what is stored isn't vacant
stored_there : (kind : Kind) (s : Seen) (bytes : List ℕ) → s ≡ Vacant → object_in kind s ≡ Some bytes → ⊥
stored_there kind s bytes none holds = let n : None ≡ Some bytes = sym (ap (object_in kind) none) ∙ holds in cc

-- what a lane has pinned is a root for each other one
pub pinned_root : (b : Books) (v : View) (mine lane : ℕ) (o : ObjName) → mine ≢ lane → IsPinned mine b o → IsRoot b v lane o
pinned_root b v mine lane o other pinned = inl (record { lane = mine; object = o }, pinned, other, refl)

-- A pin stays until its lane gives it up.
pub pins_kept : (actor lane mine : ℕ) (b b' : Books) → mine ≢ lane → Spared actor lane b b' → (o : ObjName) → IsPinned mine b o → IsPinned mine b' o
pins_kept actor lane mine b b' other spared o pinned = spared.pins (record { lane = mine; object = o }) other pinned

pub pins_gain : (lane : ℕ) (b b' : Books) → Keeps lane b b' → (o : ObjName) → IsPinned lane b o → IsPinned lane b' o
pins_gain lane b b' keeps o pinned = keeps.pins (record { lane = lane; object = o }) refl pinned

-- One act.
module _ (b : Books) (v w : View) (actor lane : ℕ) (writes : Writes (Guarantee b v actor lane) v w) where
  -- what is guarded stays, with its bytes
  pub guarded_stays : (o : ObjName) (bytes : List ℕ) → IsGuarded b v lane o → Stores v.now o bytes → Stores w.now o bytes
  guarded_stays o bytes guarded stored = ⊎_elim
      (λ same. stores_same v.now w.now o bytes same stored)
      (λ m. ⊎_elim
      (λ comes. absurd (stored_there o.kind (shows v.now (path_of o)) bytes comes.0 stored.there))
      (λ goes. absurd (goes.2 guarded))
      (m.objects o.kind o.csum (place-object o.kind o.csum (IsSum-named o bytes stored.named))))
      (writes.now (path_of o))

  -- and so does what no crash leaves away
  pub guarded_same : (o : ObjName) → IsGuarded b v lane o → IsSafe v o → (s : Seen) → MayBe w (path_of o) s → MayBe v (path_of o) s
  guarded_same o guarded safe s may = ⊎_elim
      (λ was. was)
      (λ m. ⊎_elim
      (λ comes. absurd (safe.there (shows v.now (path_of o)) (may_now v (path_of o)) comes.0))
      (λ goes. absurd (goes.2 guarded))
      (m.objects o.kind o.csum (place-object o.kind o.csum safe.sum)))
      (writes.only (path_of o) s may)

  pub guarded_safe : (o : ObjName) → IsGuarded b v lane o → IsSafe v o → IsSafe w o
  guarded_safe o guarded safe = record {
    sum = safe.sum;
    there = λ s may. safe.there s (guarded_same o guarded safe s may);
    above = firm_kept (Guarantee b v actor lane) (LeadsTo (objects_folder_path o.csum)) v w writes (leads_harmless b v w actor lane writes o.csum) safe.above;
  }

  -- no mark comes beside a commit that no crash leaves away
  pub guarded_unmarked : (commit : List ℕ) → IsSafe v (name_of Commit commit) → NeverMarked commit v → NeverMarked commit w
  guarded_unmarked = unmarked_stays b v w actor lane writes

  -- A pin protects what is reached from it in the store as it is, and no parents.
  module _ (mine : ℕ) (other : mine ≢ lane) (one : ObjName) (pinned : IsPinned mine b one) where
    pub pinned_guards : (o : ObjName) → Reach (Stores v.now) (Is one) o → IsGuarded b v lane o
    pinned_guards = reach_up (Stores v.now) (Stores v.now) (Is one) (IsRoot b v lane) (λ o is. subst (IsRoot b v lane) (sym is) (pinned_root b v mine lane one other pinned)) (λ o c stored. stored)

    pub pinned_stays : (o : ObjName) (bytes : List ℕ) → Reach (Stores v.now) (Is one) o → Stores v.now o bytes → Stores w.now o bytes
    pinned_stays o bytes reached = guarded_stays o bytes (pinned_guards o reached)

    -- so what it reaches it goes on to reach
    pub pinned_reach : (o : ObjName) → Reach (Stores v.now) (Is one) o → Reach (Stores w.now) (Is one) o
    pinned_reach = reach_stays (Stores v.now) (Stores w.now) (Is one) (Is one) (λ o is. is) pinned_stays

    pub pinned_same : (o : ObjName) → Reach (Stores v.now) (Is one) o → IsSafe v o → (s : Seen) → MayBe w (path_of o) s → MayBe v (path_of o) s
    pinned_same o reached = guarded_same o (pinned_guards o reached)

    pub pinned_safe : (o : ObjName) → Reach (Stores v.now) (Is one) o → IsSafe v o → IsSafe w o
    pinned_safe o reached = guarded_safe o (pinned_guards o reached)

  -- So does a commit that a path of the state names, now or after a crash.
  pub state_guards : (t : Topic) (value : Said) (seen : Seen) → MayBe v (topic_path t) seen → Says t value seen → (commit : List ℕ) → Contains (commits_of value) commit → (o : ObjName) → Reach (Stores v.now) (Is (name_of Commit commit)) o → IsGuarded b v lane o
  state_guards t value seen may says commit named =
      reach_up (Stores v.now) (Stores v.now) (Is (name_of Commit commit)) (IsRoot b v lane) (λ o is. inr (inl (t, value, seen, may, says, commit, named, is))) (λ o c stored. stored)

  pub state_whole : (t : Topic) (value : Said) (seen : Seen) → MayBe v (topic_path t) seen → Says t value seen → (limits : Limits) (commit : List ℕ) → Contains (commits_of value) commit → Complete (Stores v.now) limits commit → Complete (Stores w.now) limits commit
  state_whole t value seen may says limits commit named whole =
      commit_whole (Stores v.now) (Stores w.now) commit (λ o c reached stored. guarded_stays o c (state_guards t value seen may says commit named o reached) stored) (stores_map w.now) limits whole

  -- A commit that a running command has pinned stays whole, and goes on to show what it showed.
  pub pinned_whole : (mine : ℕ) → mine ≢ lane → (limits : Limits) (commit : List ℕ) → IsPinned mine b (name_of Commit commit) → Complete (Stores v.now) limits commit → Complete (Stores w.now) limits commit
  pinned_whole mine other limits commit pinned whole =
      commit_whole (Stores v.now) (Stores w.now) commit (λ o c reached stored. pinned_stays mine other (name_of Commit commit) pinned o c reached stored) (stores_map w.now) limits whole

  pub pinned_tree : (mine : ℕ) → mine ≢ lane → (commit : List ℕ) → IsPinned mine b (name_of Commit commit) → (p : Path) (n : NodeName) → TreeShows (Stores v.now) commit p n → TreeShows (Stores w.now) commit p n
  pinned_tree mine other commit pinned =
      commit_shows (Stores v.now) (Stores w.now) commit (λ o c reached stored. pinned_stays mine other (name_of Commit commit) pinned o c reached stored)

  -- Where nothing is to be removed all objects stay.
  pub undoomed_stays : ((o : ObjName) → ¬ (Contains b.doomed o)) → (o : ObjName) (bytes : List ℕ) → Stores v.now o bytes → shows w.now (path_of o) ≡ shows v.now (path_of o)
  undoomed_stays none o bytes stored = ⊎_elim
      (λ same. same)
      (λ m. ⊎_elim
      (λ comes. absurd (stored_there o.kind (shows v.now (path_of o)) bytes comes.0 stored.there))
      (λ goes. absurd (none o (next_doomed b o goes.1)))
      (m.objects o.kind o.csum (place-object o.kind o.csum (IsSum-named o bytes stored.named))))
      (writes.now (path_of o))

  -- While another lane may remove objects, none comes or goes by an act for this one.
  module _ (mine : ℕ) (other : mine ≢ lane) (alone : b.exclusive ≡ Some mine) where
    not_free : ¬ (Free b.exclusive lane)
    not_free free = other (free mine alone)

    pub object_as : (o : ObjName) → IsSum o.csum → (s : Seen) → MayBe w (path_of o) s → MayBe v (path_of o) s
    object_as o sum s may = ⊎_elim
        (λ was. was)
        (λ m. absurd (not_free (at_place b v actor lane (path_of o) s (Object o.kind o.csum) (place-object o.kind o.csum sum) m).0))
        (writes.only (path_of o) s may)

    pub stays_others : Stays [] v w
    stays_others = record {
      safe = λ name kept safe. record {
        sum = safe.sum;
        there = λ s may. safe.there s (object_as name safe.sum s may);
        above = firm_kept (Guarantee b v actor lane) (LeadsTo (objects_folder_path name.csum)) v w writes (leads_harmless b v w actor lane writes name.csum) safe.above;
      };
      same = λ name kept safe. object_as name safe.sum;
      right = λ name right. record { sum = right.sum; each = λ s may. right.each s (object_as name right.sum s may) };
      unmarked = λ commit kept safe none. record {
        each = λ s may leaf. ⊎_elim
            (λ was. none.each s was leaf)
            (λ m. not_free (m.marks commit (place-mark commit safe.sum) (no_vacant_leaf s leaf)).0)
            (writes.only (mark_path commit) s may);
      };
    }
