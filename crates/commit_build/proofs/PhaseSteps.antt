-- The steps of a commit but those in which an object is put.
use Rattle.std.specs.Prelude.{Result, IsErrOf}
use Rattle.fs_trait.specs.declared.types.FsErr.TheVariants.{Failed, Exists, Missing, NotFolder, NotEmpty, NoMemory}
use Rattle.fs_trait.proofs.Kept.{same_view}
use Rattle.std.proofs.Common.{◌≡◌, Err, inl, inr, ⊎_elim, ℕ, ◌<◌, true, false, refl, sym, ◌∙◌, ap, subst, List, Option, Some, None, Ok}
use Rattle.ost_types.specs.declared.object.ObjName.{ObjName}
use Rattle.ost_types.specs.Path.{Path}
use Rattle.fs_trait.specs.declared.types.Value.{Value}
use Rattle.fs_trait.specs.declared.types.Value.TheVariants.{Absent, Folder, Link, File}
use Rattle.fs_trait.specs.declared.types.Node.{Node}
use Rattle.fs_trait.specs.View.{Disk, View, all_synced, folder_synced, named}
use Rattle.fs_trait.specs.Image.{IsTree, Told}
use Rattle.fs_trait.specs.declared.types.FsErr.{FsErr}
use Rattle.fs_trait.specs.Effect.{Changed, IsNode, OfNone, no_leaf, no_folder, unless_leaf}
use Rattle.fs_trait.specs.Seen.{Seen, NotDirectory, MayShow, seen, shows}
use Rattle.fs_trait.specs.Change.{Writes, Nothing, At}
use Rattle.fs_trait.proofs.Kept.{weaker}
use Rattle.fs_trait.proofs.Claims.{folder_shows}
use Rattle.fs_trait.proofs.Ways.{way-there}
use Rattle.fs_trait.proofs.Refusals.{no_folder-there}
use Rattle.fs_trait.proofs.Effects.{all_synced-writes, folder_synced-writes, named-writes}
use Rattle.repo_layout.specs.Paths.{folder_path, mark_path}
use Rattle.repo_layout.specs.declared.folder.Folder.TheVariants.{State}
use Rattle.obj_store.specs.declared.phase.Put.{Put}
use Rattle.commit_build.specs.declared.phase.Phase.{Phase}
use Rattle.commit_build.specs.declared.phase.Phase.TheVariants as phase
use Rattle.commit_build.specs.Committing.{Committing, IsPut, IsPutCommit, IsMade, kept_in, named_commit}
use Rattle.commit_build.specs.Steps.{Needs, needs_in, came_in, refuses_in, WritesOf, writes_in, HasHomes, NotLeaf, TakesLeaf, is_leaf_node}
use Rattle.fs_trait.proofs.Answering.{Step}
use Rattle.commit_build.proofs.Mild.{Mild, mild_mark, no_write, homes_kept, sure_kept}
use Rattle.commit_build.proofs.Synced.{synced_sure, unmarked, leaf_there, never_marked}
use Rattle.commit_build.proofs.PutSteps.{needs_as, kept_as}

none_any : (W : Path → Seen → Type 0) (v w : View) → Writes Nothing v w → Writes W v w
none_any W v w writes = weaker Nothing W v w (λ p s none. absurd none) writes

-- A sync of all.
module _ (t : Committing) (v : View) (tree : IsTree v.now) (needs : Needs t v) where
  synced_homes : HasHomes t.actor (all_synced v).now
  synced_homes = homes_kept t.actor Nothing (no_write t.actor) v (all_synced v) (all_synced-writes v) needs.homes

  pub sync_objects : t.phase ≡ phase.SyncObjects → Step (WritesOf t v) (Needs (record t { phase = phase.MakeCommit; met = None })) v None (all_synced v)
  sync_objects is =
      let kept = kept_as t needs.made phase.SyncObjects is in
      let there = needs_as t v needs phase.SyncObjects is in
      record {
        free = refl;
        writes = none_any (WritesOf t v) v (all_synced v) (all_synced-writes v);
        after = record {
          made = record {
            actor = needs.made.actor;
            items = needs.made.items;
            typed = needs.made.typed;
            bound = needs.made.bound;
            makeable = needs.made.makeable;
            small = needs.made.small;
            made = needs.made.made;
            kept = kept;
          };
          homes = synced_homes;
          meets = record { each = λ n o number. synced_sure v o.name tree (there.each n o (subst (λ k. n < k) (sym kept.1) number.0) number) };
        };
      }

  pub sync_commit : (sum : List ℕ) → t.phase ≡ phase.SyncCommit sum → Step (WritesOf t v) (Needs (record t { phase = phase.Unmark sum; met = None })) v None (all_synced v)
  sync_commit sum is =
      let kept = kept_as t needs.made (phase.SyncCommit sum) is in
      let has = needs_as t v needs (phase.SyncCommit sum) is in
      record {
        free = refl;
        writes = none_any (WritesOf t v) v (all_synced v) (all_synced-writes v);
        after = record {
          made = record {
            actor = needs.made.actor;
            items = needs.made.items;
            typed = needs.made.typed;
            bound = needs.made.bound;
            makeable = needs.made.makeable;
            small = needs.made.small;
            made = needs.made.made;
            kept = kept;
          };
          homes = synced_homes;
          meets = (
            record { each = λ n o number. sure_kept t.actor Nothing (no_write t.actor) v (all_synced v) (all_synced-writes v) o.name (has.0.each n o number) },
            synced_sure v (named_commit sum) tree has.1,
          );
        };
      }

-- what a leaf that was seen makes of the call that takes it away
leaf_value : (d : Disk) (z : Value) (n : Option Node) → IsNode d z n → is_leaf_node n ≡ true → unless_leaf z ≡ None
leaf_value d Absent n is leaf = let e : false ≡ true = sym (ap is_leaf_node is) ∙ leaf in cc
leaf_value d (Folder m) n is leaf = let e : false ≡ true = sym (ap is_leaf_node is) ∙ leaf in cc
leaf_value d (Link m t) n is leaf = refl
leaf_value d (File k) n is leaf = refl

leaf_free : (d : Disk) (p : Path) (n : Option Node) → IsTree d → IsNode d (d.at p) n → is_leaf_node n ≡ true → no_leaf p d ≡ None
unfolding no_leaf
leaf_free d p n tree is leaf = rw (way-there d tree p (leaf_there d (d.at p) n is leaf), leaf_value d (d.at p) n is leaf) refl

not_refused : (e : FsErr) (refusal : Option FsErr) → refusal ≡ Some e → refusal ≡ None → ⊥
not_refused e refusal is free = let n : Some e ≡ None = sym is ∙ free in cc

leaf_seen : (d : Disk) (z : Value) (n : Option Node) → IsNode d z n → is_leaf_node n ≡ true → NotDirectory (seen d z)
leaf_seen d Absent n is leaf = tt
leaf_seen d (Folder m) n is leaf = let e : false ≡ true = sym (ap is_leaf_node is) ∙ leaf in cc
leaf_seen d (Link m t) n is leaf = tt
leaf_seen d (File k) n is leaf = tt

-- what was seen, and what the call did
pub leaf_taken : (p : Path) (v : View) (n : Option Node) → IsTree v.now → IsNode v.now (v.now.at p) n → is_leaf_node n ≡ true → (r : Result (Unit {0}) FsErr) (view : Option View)
    → Changed (no_leaf p v.now) v (named p Absent v) r view → TakesLeaf p v r view
leaf_taken p v n tree is leaf (Ok x) view changed = inr (changed.1, leaf_seen v.now (v.now.at p) n is leaf)
leaf_taken p v n tree is leaf (Err Failed) view changed = ⊎_elim (λ a. inl a) (λ a. inr (a.1, leaf_seen v.now (v.now.at p) n is leaf)) changed
leaf_taken p v n tree is leaf (Err NoMemory) view changed = changed
leaf_taken p v n tree is leaf (Err Exists) view changed = not_refused Exists _ changed.0 (leaf_free v.now p n tree is leaf)
leaf_taken p v n tree is leaf (Err Missing) view changed = not_refused Missing _ changed.0 (leaf_free v.now p n tree is leaf)
leaf_taken p v n tree is leaf (Err NotFolder) view changed = not_refused NotFolder _ changed.0 (leaf_free v.now p n tree is leaf)
leaf_taken p v n tree is leaf (Err NotEmpty) view changed = not_refused NotEmpty _ changed.0 (leaf_free v.now p n tree is leaf)

pub look_failed : (p : Path) (v : View) (e : FsErr) (view : Option View) → OfNone e → view ≡ Some v → TakesLeaf p v (Err e) view
look_failed p v Failed view named_ told = inl told
look_failed p v NoMemory view named_ told = told
look_failed p v Exists view named_ told = named_
look_failed p v Missing view named_ told = named_
look_failed p v NotFolder view named_ told = named_
look_failed p v NotEmpty view named_ told = named_

pub taken_fails : (p : Path) (v : View) (f : Phase) (e : FsErr) (view : Option View) → TakesLeaf p v (Err e) view → refuses_in f v e
taken_fails p v f Failed view takes = tt
taken_fails p v f NoMemory view takes = tt
taken_fails p v f Exists view takes = absurd takes
taken_fails p v f Missing view takes = absurd takes
taken_fails p v f NotFolder view takes = absurd takes
taken_fails p v f NotEmpty view takes = absurd takes

pub taken_unchanged : {T : Type 0} (p : Path) (v : View) (e : FsErr) (view : Option View) → TakesLeaf p v (Err e) view → IsErrOf {T = T} (Err e) NoMemory → view ≡ Some v
taken_unchanged p v e view takes is = let n : e ≡ NoMemory = cc in subst (λ x. TakesLeaf p v (Err x) view) n takes

module _ (t : Committing) (v : View) (tree : IsTree v.now) (needs : Needs t v) (sum : List ℕ) where
  -- The mark is taken away.
  module _ (is : t.phase ≡ phase.Unmark sum) where
    has : needs_in (phase.Unmark sum) t v
    has = needs_as t v needs (phase.Unmark sum) is

    kept : kept_in (phase.Unmark sum) t
    kept = kept_as t needs.made (phase.Unmark sum) is

    made_next : IsMade (record t { phase = phase.SyncState sum; met = None })
    made_next = record {
      actor = needs.made.actor;
      items = needs.made.items;
      typed = needs.made.typed;
      bound = needs.made.bound;
      makeable = needs.made.makeable;
      small = needs.made.small;
      made = needs.made.made;
      kept = kept;
    }

    abbrev W : Path → Seen → Type 0
    W = At (mark_path sum) (MayShow v Absent)

    mild : (p : Path) (s : Seen) → W p s → Mild t.actor p s
    mild p s a = mild_mark t.actor p s sum a.0

    unmark_after : Needs (record t { phase = phase.SyncState sum; met = None }) (named (mark_path sum) Absent v)
    unmark_after =
        let writes = named-writes v (mark_path sum) Absent in
        let w = named (mark_path sum) Absent v in
        record {
          made = made_next;
          homes = homes_kept t.actor W mild v w writes needs.homes;
          meets = (
            record { each = λ n o number. sure_kept t.actor W mild v w writes o.name (has.0.each n o number) },
            sure_kept t.actor W mild v w writes (named_commit sum) has.1,
            unmarked sum v,
          );
        }

    unmark_writes : NotDirectory (shows v.now (mark_path sum)) → Writes (WritesOf t v) v (named (mark_path sum) Absent v)
    unmark_writes file =
        let w = named (mark_path sum) Absent v in
        subst (λ f. Writes (writes_in f v) v w) (sym is) (weaker W (writes_in (phase.Unmark sum) v) v w (λ p s a. (a.0, a.1, subst (λ q. NotDirectory (shows v.now q)) (sym a.0) file)) (named-writes v (mark_path sum) Absent))

    no_mark_after : NotLeaf (shows v.now (mark_path sum)) → Needs (record t { phase = phase.SyncState sum; met = None }) v
    no_mark_after none = record { made = made_next; homes = needs.homes; meets = (has.0, has.1, none) }

    pub taken_writes : (p : Path) → p ≡ mark_path sum → (r : Result (Unit {0}) FsErr) (view : Option View) → TakesLeaf p v r view → Told view (λ w. Writes (WritesOf t v) v w)
    taken_writes p e r view takes = by r (subst (λ q. TakesLeaf q v r view) e takes)
      where
        same : view ≡ Some v → Told view (λ w. Writes (WritesOf t v) v w)
        same told = (v, told, same_view (WritesOf t v) v)

        gone : (view ≡ Some (named (mark_path sum) Absent v)) × NotDirectory (shows v.now (mark_path sum)) → Told view (λ w. Writes (WritesOf t v) v w)
        gone a = (named (mark_path sum) Absent v, a.0, unmark_writes a.1)

        by : (r : Result (Unit {0}) FsErr) → TakesLeaf (mark_path sum) v r view → Told view (λ w. Writes (WritesOf t v) v w)
        by (Ok x) takes = ⊎_elim (λ a. same a.0) gone takes
        by (Err Failed) takes = ⊎_elim same gone takes
        by (Err NoMemory) takes = same takes
        by (Err Exists) takes = absurd takes
        by (Err Missing) takes = absurd takes
        by (Err NotFolder) takes = absurd takes
        by (Err NotEmpty) takes = absurd takes

    pub taken_after : (p : Path) → p ≡ mark_path sum → (x : Unit {0}) (view : Option View) → TakesLeaf p v (Ok x) view → Told view (Needs (record t { phase = phase.SyncState sum; met = None }))
    taken_after p e x view takes = ⊎_elim
        (λ a. (v, a.0, no_mark_after a.1))
        (λ a. (named (mark_path sum) Absent v, a.0, unmark_after))
        (subst (λ q. TakesLeaf q v (Ok x) view) e takes)

  -- That outlasts a crash.
  pub sync_state : t.phase ≡ phase.SyncState sum
      → Step (WritesOf t v) (Needs (record t { phase = phase.Ended sum; met = None })) v (no_folder (folder_path State) v.now) (folder_synced (folder_path State) v)
  sync_state is =
      let has = needs_as t v needs (phase.SyncState sum) is in
      let kept = kept_as t needs.made (phase.SyncState sum) is in
      let writes = folder_synced-writes v (folder_path State) in
      let w = folder_synced (folder_path State) v in
      record {
        free = no_folder-there v.now tree (folder_path State) (folder_shows v.now (folder_path State) needs.homes.state);
        writes = none_any (WritesOf t v) v w writes;
        after = record {
          made = record {
            actor = needs.made.actor;
            items = needs.made.items;
            typed = needs.made.typed;
            bound = needs.made.bound;
            makeable = needs.made.makeable;
            small = needs.made.small;
            made = needs.made.made;
            kept = kept;
          };
          homes = homes_kept t.actor Nothing (no_write t.actor) v w writes needs.homes;
          meets = (
            record { each = λ n o number. sure_kept t.actor Nothing (no_write t.actor) v w writes o.name (has.0.each n o number) },
            sure_kept t.actor Nothing (no_write t.actor) v w writes (named_commit sum) has.1,
            never_marked sum v has.2,
          );
        };
      }

  pub sync_state_at : (p : Path) → p ≡ folder_path State → t.phase ≡ phase.SyncState sum
      → Step (WritesOf t v) (Needs (record t { phase = phase.Ended sum; met = None })) v (no_folder p v.now) (folder_synced p v)
  sync_state_at p e is = subst (λ q. Step (WritesOf t v) (Needs (record t { phase = phase.Ended sum; met = None })) v (no_folder q v.now) (folder_synced q v)) (sym e) (sync_state is)

-- as the contract names the task
pub as_is : (t u : Committing) → t ≡ u → (v : View) (After : View → Type 0) (refusal : Option FsErr) (w : View) → Step (WritesOf t v) After v refusal w → Step (WritesOf u v) After v refusal w
as_is t u e v After refusal w step = subst (λ x. Step (WritesOf x v) After v refusal w) e step

pub written_as : (t u : Committing) → t ≡ u → (ph : Phase) → t.phase ≡ ph → (v : View) (view : Option View) → Told view (λ w. Writes (writes_in ph v) v w) → Told view (λ w. Writes (WritesOf u v) v w)
written_as t u e ph is v view told = (told.0, told.1, subst (λ (x : Committing). Writes (WritesOf x v) v told.0) e (subst (λ f. Writes (writes_in f v) v told.0) (sym is) told.2))

-- facts on one view
pub told_three : (P Q R S : View → Type 0) (view : Option View) → ((w : View) → P w → Q w → R w → S w) → Told view P → Told view Q → Told view R → Told view S
told_three P Q R S view all a b c =
    let same : b.0 ≡ a.0 = cc (a.1, b.1) in
    let also : c.0 ≡ a.0 = cc (a.1, c.1) in
    (a.0, a.1, all a.0 a.2 (subst Q same b.2) (subst R also c.2))

-- a step that puts nothing tells no more
calm : (count most : ℕ) (f : Phase) (met : Option (ObjName × Put)) (v w : View) → (IsPut f → ⊥) → (IsPutCommit f → ⊥) → came_in count most f met v w
calm count most phase.Check met v w a b = tt
calm count most phase.Make met v w a b = tt
calm count most (phase.Made c) met v w a b = tt
calm count most (phase.Put p) met v w a b = absurd (a tt)
calm count most phase.SyncObjects met v w a b = tt
calm count most phase.MakeCommit met v w a b = tt
calm count most (phase.PutCommit p) met v w a b = absurd (b tt)
calm count most (phase.SyncCommit sum) met v w a b = tt
calm count most (phase.Unmark sum) met v w a b = tt
calm count most (phase.SyncState sum) met v w a b = tt
calm count most (phase.Ended sum) met v w a b = tt

pub calm_tells : (count : ℕ) (t : Committing) (met : Option (ObjName × Put)) (v w : View) (f : Phase) → t.phase ≡ f → (IsPut f → ⊥) → (IsPutCommit f → ⊥) → (view : Option View) → view ≡ Some w
    → Told view (λ x. came_in count t.limits.objects t.phase met v x)
calm_tells count t met v w f is a b view told = (w, told, subst (λ g. came_in count t.limits.objects g met v w) (sym is) (calm count t.limits.objects f met v w a b))

pub told_as : (t u : Committing) → t ≡ u → (v : View) (view : Option View) → Told view (λ w. Writes (WritesOf t v) v w) → Told view (λ w. Writes (WritesOf u v) v w)
told_as t u e v view told = (told.0, told.1, subst (λ (x : Committing). Writes (WritesOf x v) v told.0) e told.2)

pub told_two : (P Q : View → Type 0) (view : Option View) → ((w : View) → P w → Q w) → Told view P → Told view Q
told_two P Q view all a = (a.0, a.1, all a.0 a.2)
