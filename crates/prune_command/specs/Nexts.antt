-- What is known behind a step of its own.
use Rattle.std.proofs.lemmas.List.Elements.{Contains-append_left, Contains-append_right}
use Rattle.std.proofs.Common.{◌≡◌, ◌≢◌, ◌⊎◌, ⊎_elim, inl, inr, ◌<◌, ◌≤◌, ◌+◌, ℕ, List, [], length, get_or, take, Contains, Some, None, Option, refl, sym, ◌∙◌, ap, subst, arith}
use Rattle.ost_types.specs.declared.object.Kind.TheVariants as kind
use Rattle.ost_types.specs.declared.object.ObjName.{ObjName}
use Rattle.ost_types.specs.Path.{Path}
use Rattle.ost_types.proofs.Paths.{is_below-self}
use Rattle.fs_trait.specs.declared.task.StepResult.TheVariants as turn
use Rattle.fs_trait.specs.declared.types.Value.TheVariants.{Absent}
use Rattle.fs_trait.specs.Change.{Nothing, Writes}
use Rattle.fs_trait.specs.Seen.{IsDirectory, MayBe, NotDirectory, Seen, Vacant, seen, shows}
use Rattle.fs_trait.specs.View.{Disk, View, all_synced, named}
use Rattle.fs_trait.proofs.Effects.{all_synced-writes, named-writes}
use Rattle.fs_trait.proofs.Facts.{vacant_absent}
use Rattle.repo_layout.specs.declared.folder.Folder.TheVariants.{State}
use Rattle.repo_layout.specs.Paths.{folder_path, mark_path, ref_path}
use Rattle.repo_layout.specs.Place.{Mark, Object, Other, Ref, place}
use Rattle.repo_layout.specs.RefFile.{IsSum}
use Rattle.repo_layout.proofs.Places.{place-mark, place-object, place-ref}
use Rattle.repo_model.specs.Objects.{Stores, path_of}
use Rattle.repo_model.specs.Trees.{name_of}
use Rattle.repo_model.proofs.Named.{IsSum-named}
use Rattle.repo_model.proofs.Stored.{stores_same}
use Rattle.layout_rules.proofs.Layouts.{fixed_other}
use Rattle.obj_store.proofs.PlaceLemmas.{one_name}
use Rattle.reach.specs.Reach.{Refers}
use Rattle.reach.proofs.Reaching.{refers_where}
use Rattle.store_check.specs.Listing.{IsThere}
use Rattle.rely_guarantee.specs.declared.books.Pin.{Pin}
use Rattle.rely_guarantee.specs.Books.{Books, Keeps}
use Rattle.rely_guarantee.specs.Disks.{IsLeaf, Says}
use Rattle.rely_guarantee.specs.Laws.{Kind, Owned, Stood}
use Rattle.rely_guarantee.specs.declared.event.Event.{Event}
use Rattle.rely_guarantee.specs.State.{removed_by}
use Rattle.rely_guarantee.proofs.Locking.{spared_refl}
use Rattle.rely_guarantee.proofs.States.{says_leaf}
use Rattle.durable_store.specs.Removals.{AreKept, Except, IsRemoval, IsSettled, TakesMark, TakesObject}
use Rattle.durable_store.specs.Standing.{IsNeverThere}
use Rattle.durable_store.proofs.Apart.{mark_object, vacant_or}
use Rattle.durable_store.proofs.Kept.{never_begins, removal_kept, removal_never, removal_settled, settled_begins}
use Rattle.prune_mark.specs.Lasting.{ShowSameObjects}
use Rattle.prune_sweep.specs.declared.part.Part.{Part}
use Rattle.prune_sweep.specs.declared.part.Part.TheVariants as part
use Rattle.prune_sweep.specs.Lost.{IsLost}
use Rattle.prune_sweep.specs.Planned.{IsPlanned, Stays}
use Rattle.prune_sweep.specs.Steps.{IsNext, IsNextMark}
use Rattle.prune_sweep.specs.Sweeping.{Advances, AreFront, Follows, GoesOn, IsBehindCommits, IsBehindObjects, IsFresh, IsIn, IsSoFar, Sweeping, calls_of}
use Rattle.prune_sweep.specs.Swept.{IsSwept}
use Rattle.prune_sweep.proofs.Going.{at_taken, taken_at, swept_begins, swept_lasts, swept_more, unlinks_named}
use Rattle.durable_store.specs.Free.{ObjectPathsFree}
use Rattle.prune_command.specs.declared.command.PruneCommand.{PruneCommand}
use Rattle.prune_command.specs.declared.known.Known.{Known}
use Rattle.prune_command.specs.declared.phase.Phase.{Phase}
use Rattle.prune_command.specs.declared.phase.Phase.TheVariants as phase
use Rattle.prune_command.specs.Commands as command
use Rattle.prune_command.specs.Commands.{change_of, kind_in, prune_kind, prune_leaves}
use Rattle.prune_command.specs.Facts.{AreNever, Facts, HasBegun, IsBehind, IsGoing, IsToGo, KnownIn, SweepKnows}
use Rattle.prune_command.specs.Kept.{SparesRefs, begun_gains, begun_on, kept_pins, listed_before, there_from}
use Rattle.prune_command.specs.Learned.{from_of}
use Rattle.prune_command.specs.SweepSteps.{Did, TookObject, sweep_kind}

-- ---- what such a step writes spares the refs and the folders

-- nothing comes, and neither a ref nor the folder of marks goes
pub record Spares (W : Path → Seen → Type 0) : Type 0 where
  pub vacant : (p : Path) (s : Seen) → W p s → s ≡ Vacant
  pub refs : (name : List ℕ) (s : Seen) → W (ref_path name) s → ⊥
  pub state : (s : Seen) → W (folder_path State) s → ⊥

leaf_there : (s : Seen) → IsLeaf s → s ≢ Vacant
leaf_there s leaf e = let n : IsLeaf Vacant = subst IsLeaf e leaf in n

module _ (v w : View) (W : Path → Seen → Type 0) (writes : Writes W v w) (spares : Spares W) where
  own_refs : SparesRefs v w
  own_refs = record {
    may = λ name commit s says may. ⊎_elim (λ was. was) (λ wrote. absurd (spares.refs name s wrote)) (writes.only (ref_path name) s may);
    now = λ name. ⊎_elim (λ same. same) (λ wrote. absurd (spares.refs name _ wrote)) (writes.now (ref_path name));
  }

  own_leaves : ObjectPathsFree v.now → ObjectPathsFree w.now
  own_leaves leaves o sum = ⊎_elim
      (λ same. subst NotDirectory (sym same) (leaves o sum))
      (λ wrote. subst NotDirectory (sym (spares.vacant (path_of o) _ wrote)) tt)
      (writes.now (path_of o))

  own_state : IsDirectory (shows v.now (folder_path State)) → IsDirectory (shows w.now (folder_path State))
  own_state is = ⊎_elim (λ same. subst IsDirectory (sym same) is) (λ wrote. absurd (spares.state _ wrote)) (writes.now (folder_path State))

  -- so what it began with is still so
  pub own_begun : (k : Known) (lane : ℕ) (b b' : Books) → Keeps lane b b' → HasBegun k lane v b → HasBegun k lane w b'
  own_begun k lane b b' keeps was = begun_on k lane v w b b' (keeps.exclusive was.exclusive) (keeps.turn was.turn) own_refs keeps.listed keeps.pinned own_leaves own_state was

-- one path is vacant from then on
abbrev pub Vacated : Path → Path → Seen → Type 0
Vacated at p s = (p ≡ at) × (s ≡ Vacant)

pub nothing_spares : Spares Nothing
nothing_spares = record { vacant = λ p s wrote. absurd wrote; refs = λ name s wrote. absurd wrote; state = λ s wrote. absurd wrote }

state_other : place (folder_path State) ≡ Other (folder_path State)
state_other = fixed_other State (folder_path State) (is_below-self (folder_path State))

pub object_spares : (o : ObjName) → IsSum o.csum → Spares (Vacated (path_of o))
object_spares o sum = record {
  vacant = λ p s wrote. wrote.1;
  refs = λ name s wrote. (let n : Ref name ≡ Object o.kind o.csum = sym (place-ref name) ∙ ap place wrote.0 ∙ place-object o.kind o.csum sum in cc);
  state = λ s wrote. (let n : Other (folder_path State) ≡ Object o.kind o.csum = sym state_other ∙ ap place wrote.0 ∙ place-object o.kind o.csum sum in cc);
}

pub mark_spares : (commit : List ℕ) → IsSum commit → Spares (Vacated (mark_path commit))
mark_spares commit sum = record {
  vacant = λ p s wrote. wrote.1;
  refs = λ name s wrote. (let n : Ref name ≡ Mark commit = sym (place-ref name) ∙ ap place wrote.0 ∙ place-mark commit sum in cc);
  state = λ s wrote. (let n : Other (folder_path State) ≡ Mark commit = sym state_other ∙ ap place wrote.0 ∙ place-mark commit sum in cc);
}

-- ---- how the sweep goes on

-- the part is one of those between the first and the last
abbrev pub IsMiddle : Part → Type 0
IsMiddle part.Begin = ⊥
IsMiddle part.Over = ⊥
IsMiddle x = Unit {0}

-- and it comes behind the sync of all that comes behind the commits
abbrev pub IsLate : Part → Type 0
IsLate part.Object = Unit {0}
IsLate part.Mark = Unit {0}
IsLate part.End = Unit {0}
IsLate x = ⊥

abbrev pub IsEarly : Part → Type 0
IsEarly part.Commit = Unit {0}
IsEarly part.Barrier = Unit {0}
IsEarly x = ⊥

late_middle : (x : Part) → IsLate x → IsMiddle x
late_middle part.Object is = tt
late_middle part.Mark is = tt
late_middle part.End is = tt
late_middle part.Begin is = is
late_middle part.Commit is = tt
late_middle part.Barrier is = tt
late_middle part.Over is = is

early_middle : (x : Part) → IsEarly x → IsMiddle x
early_middle part.Commit is = tt
early_middle part.Barrier is = tt
early_middle part.Object is = tt
early_middle part.Mark is = tt
early_middle part.End is = tt
early_middle part.Begin is = is
early_middle part.Over is = is

behind_late : (x : Part) (r : Sweeping) (v : View) → IsLate x → IsSettled (Except r.removed) v × AreNever v r.marks → IsBehind x r v
behind_late part.Object r v is late = late
behind_late part.Mark r v is late = late
behind_late part.End r v is late = late
behind_late part.Begin r v is late = tt
behind_late part.Commit r v is late = tt
behind_late part.Barrier r v is late = tt
behind_late part.Over r v is late = tt

pub late_behind : (x : Part) (r : Sweeping) (v : View) → IsLate x → IsBehind x r v → IsSettled (Except r.removed) v × AreNever v r.marks
late_behind part.Object r v is behind = behind
late_behind part.Mark r v is behind = behind
late_behind part.End r v is behind = behind
late_behind part.Begin r v is behind = absurd is
late_behind part.Commit r v is behind = absurd is
late_behind part.Barrier r v is behind = absurd is
late_behind part.Over r v is behind = absurd is

behind_early : (x : Part) (r : Sweeping) (v : View) → IsEarly x → IsBehind x r v
behind_early part.Commit r v is = tt
behind_early part.Barrier r v is = tt
behind_early part.Begin r v is = absurd is
behind_early part.Object r v is = absurd is
behind_early part.Mark r v is = absurd is
behind_early part.End r v is = absurd is
behind_early part.Over r v is = absurd is

objects_late : (unmarked marks : ℕ) (x : Part) → IsBehindObjects unmarked marks x → IsLate x
objects_late unmarked marks x is = ⊎_elim (λ m. subst IsLate (sym m.0) tt) (λ e. subst IsLate (sym e.0) tt) is

commits_late : (r : Sweeping) → IsBehindCommits r → IsLate r.part
commits_late r is = ⊎_elim (λ o. subst IsLate (sym o.0) tt) (λ rest. objects_late r.unmarked (length r.marks) r.part rest.1) is

-- the parts that follow each other
abbrev pub IsThen : Part → Part → Type 0
IsThen part.Begin x = IsEarly x
IsThen part.Commit x = IsEarly x
IsThen part.Barrier x = IsLate x
IsThen part.Object x = IsLate x
IsThen part.Mark x = IsLate x
IsThen part.End x = ⊥
IsThen part.Over x = ⊥

pub follows_then : (x : Part) (r : Sweeping) → Follows x r → IsThen x r.part
follows_then part.Begin r is = ⊎_elim (λ c. subst IsEarly (sym c.0) tt) (λ b. subst IsEarly (sym b.0) tt) is
follows_then part.Commit r is = ⊎_elim (λ c. subst IsEarly (sym c.0) tt) (λ b. subst IsEarly (sym b.0) tt) is
follows_then part.Barrier r is = commits_late r is
follows_then part.Object r is = commits_late r is
follows_then part.Mark r is = objects_late r.unmarked (length r.marks) r.part is
follows_then part.End r is = is
follows_then part.Over r is = is

pub then_middle : (x y : Part) → IsThen x y → IsMiddle y
then_middle part.Begin y is = early_middle y is
then_middle part.Commit y is = early_middle y is
then_middle part.Barrier y is = late_middle y is
then_middle part.Object y is = late_middle y is
then_middle part.Mark y is = late_middle y is
then_middle part.End y is = absurd is
then_middle part.Over y is = absurd is

pub going_knows : (x : Part) (k : Known) (depth lane : ℕ) (r : Sweeping) (v : View) (b : Books) → IsMiddle x → IsGoing k depth lane r v b → SweepKnows x k depth lane r v b
going_knows part.Commit k depth lane r v b is going = going
going_knows part.Barrier k depth lane r v b is going = going
going_knows part.Object k depth lane r v b is going = going
going_knows part.Mark k depth lane r v b is going = going
going_knows part.End k depth lane r v b is going = going
going_knows part.Begin k depth lane r v b is going = absurd is
going_knows part.Over k depth lane r v b is going = absurd is

-- what was planned is so of the sweep behind the step
same_but : (old new : Sweeping) → GoesOn old new → record old { gone = new.gone; unmarked = new.unmarked; part = new.part } ≡ new
same_but old new on =
    let a = sym on.removed in let c = sym on.commits in let m = sym on.marks in let k = sym on.kept in
    λ i. record { removed = a i; commits = c i; marks = m i; kept = k i; gone = new.gone; unmarked = new.unmarked; part = new.part }

pub planned_on : (d : Disk) (from : List ObjName) (depth : ℕ) (pins : List ObjName) (old new : Sweeping) → GoesOn old new → IsPlanned d from depth pins old → IsPlanned d from depth pins new
planned_on d from depth pins old new on plan = subst (IsPlanned d from depth pins) (same_but old new on) again
  where
    again : IsPlanned d from depth pins (record old { gone = new.gone; unmarked = new.unmarked; part = new.part })
    again = record {
      there = plan.there;
      only = plan.only;
      all = plan.all;
      roots = plan.roots;
      closed = plan.closed;
      front = plan.front;
      others = plan.others;
      once = plan.once;
      names = plan.names;
      names_are = plan.names_are;
      count = plan.count;
      lost = plan.lost;
    }

-- ---- one object goes

next_removed : (r : Sweeping) (o : ObjName) → IsNext r o → Contains r.removed o
next_removed r o next = (r.gone, next.0, next.1)

module _ (k : Known) (depth lane : ℕ) (r : Sweeping) (v : View) (b : Books) (going : IsGoing k depth lane r v b) (o : ObjName) (next : IsNext r o) where
  abbrev its_plan : IsPlanned going.planned (from_of k) depth k.held r
  its_plan = going.plan

  abbrev TakesAway : Path → Seen → Type 0
  TakesAway = Vacated (path_of o)

  pub object_sum : IsSum o.csum
  object_sum = (its_plan.there o (next_removed r o next)).sum

  pub takes_object : (o.kind ≢ kind.Commit → IsSettled (Except r.removed) v) → TakesObject (Except r.removed) v TakesAway
  takes_object settled = record { name = o; sum = object_sum; gone = λ kept. kept (next_removed r o next); settled = settled; vacates = λ p s wrote_object. wrote_object }

  module _ (new : Sweeping) (on : GoesOn r new) (gone : new.gone ≡ r.gone + 1) (b' : Books) (keeps : Keeps lane b b') (doomed : b'.doomed ≡ b.doomed) (count : b'.gone ≡ b.gone + 1)
      (settled : o.kind ≢ kind.Commit → IsSettled (Except r.removed) v) where
    abbrev taken_view : View
    taken_view = named (path_of o) Absent v

    wrote_object : Writes TakesAway v taken_view
    wrote_object = named-writes v (path_of o) Absent

    removal_object : IsRemoval (Except r.removed) v TakesAway
    removal_object = inl (takes_object settled)

    fewer_now : (x : ObjName) → IsThere taken_view.now x → IsThere v.now x
    fewer_now x there = ⊎_elim
        (λ same. there_from v.now taken_view.now x same there)
        (λ gone_. absurd (there.there (vacant_absent taken_view.now (path_of x) gone_.1)))
        (wrote_object.now (path_of x))

    now_gone : (x : ObjName) → Contains (take (r.gone + 1) r.removed) x → Contains (take new.gone new.removed) x
    now_gone x has = subst (λ (l : List ObjName). Contains (take new.gone l) x) (sym on.removed) (subst (λ n. Contains (take n r.removed) x) (sym gone) has)

    taken_more : (x : ObjName) → Contains (take r.gone r.removed) x → Contains (take (r.gone + 1) r.removed) x
    taken_more x has = let t = taken_at r.removed r.gone (omega (arith, next.0)) x has in at_taken r.removed (r.gone + 1) (omega (arith, next.0)) x t.0 (omega (arith, t.1)) t.2

    itself_taken : (x : ObjName) → x ≡ o → Contains (take (r.gone + 1) r.removed) x
    itself_taken x is = at_taken r.removed (r.gone + 1) (omega (arith, next.0)) x r.gone (omega arith) (subst (λ (y : ObjName). get_or r.removed r.gone y ≡ y) (sym is) next.1)

    either_now : (x : ObjName) → IsThere going.planned x → IsThere taken_view.now x ⊎ Contains (take new.gone new.removed) x
    either_now x there = ⊎_elim
        (λ now. ⊎_elim
        (λ same. inl (there_from taken_view.now v.now x (sym same) now))
        (λ gone_. inr (now_gone x (itself_taken x (one_name x o there.sum object_sum gone_.0))))
        (wrote_object.now (path_of x)))
        (λ has. inr (now_gone x (taken_more x has)))
        (going.either x there)

    pub late_on : IsSettled (Except r.removed) v × AreNever v r.marks → IsSettled (Except r.removed) taken_view × AreNever taken_view r.marks
    late_on late = (
      removal_settled (Except r.removed) v taken_view TakesAway wrote_object removal_object late.0,
      λ p has. let n = late.1 p has in (n.0, n.1, n.2, removal_never (Except r.removed) v taken_view TakesAway wrote_object removal_object n.0 n.3),
    )

    pub object_going : IsBehind new.part new taken_view → IsGoing k depth lane new taken_view b'
    object_going behind = record {
      planned = going.planned;
      plan = planned_on going.planned (from_of k) depth k.held r new on its_plan;
      swept = subst (λ (l : List ObjName). IsSwept going.planned l new.gone taken_view.now) (sym on.removed)
          (swept_more going.planned r.removed its_plan.once r.gone o next.0 next.1 new.gone gone v.now taken_view.now (unlinks_named v o object_sum) going.swept);
      fewer = λ x there. going.fewer x (fewer_now x there);
      either = either_now;
      doomed = doomed ∙ going.doomed ∙ sym on.removed;
      gone = count ∙ ap (λ n. n + 1) going.gone ∙ sym gone;
      kept = subst (λ (l : List ObjName). AreKept (Except l) b' taken_view lane) (sym on.removed)
          (kept_pins r.removed taken_view b b' lane keeps (removal_kept (Except r.removed) b b lane lane v taken_view TakesAway (spared_refl lane lane b) refl wrote_object removal_object going.kept));
      behind = behind;
    }

    pub object_begun : HasBegun k lane v b → HasBegun k lane taken_view b'
    object_begun was = own_begun v taken_view TakesAway wrote_object (object_spares o object_sum) k lane b b' keeps was

-- what is so of what goes and of the marks is so behind the step
late_as : (r new : Sweeping) (v : View) → GoesOn r new → IsSettled (Except r.removed) v × AreNever v r.marks → IsSettled (Except new.removed) v × AreNever v new.marks
late_as r new v on is = (subst (λ (l : List ObjName). IsSettled (Except l) v) (sym on.removed) is.0, subst (AreNever v) (sym on.marks) is.1)

-- ---- nothing is written

module _ (k : Known) (depth lane : ℕ) (r new : Sweeping) (v : View) (b b' : Books) (going : IsGoing k depth lane r v b) (on : GoesOn r new) (same : new.gone ≡ r.gone) (keeps : Keeps lane b b') (doomed : b'.doomed ≡ b.doomed) (count : b'.gone ≡ b.gone) where
  -- the mark goes
  module _ (w : View) (W : Path → Seen → Type 0) (wrote : Writes W v w) (removal : IsRemoval (Except r.removed) v W) (objects : ShowSameObjects v.now w.now) where
    pub still_going : IsBehind new.part new w → IsGoing k depth lane new w b'
    still_going behind = record {
      planned = going.planned;
      plan = planned_on going.planned (from_of k) depth k.held r new on going.plan;
      swept = subst (λ (l : List ObjName). IsSwept going.planned l new.gone w.now) (sym on.removed)
          (subst (λ n. IsSwept going.planned r.removed n w.now) (sym same) (swept_lasts going.planned r.removed r.gone v.now w.now objects going.swept));
      fewer = λ x there. going.fewer x (there_from v.now w.now x (objects x there.sum) there);
      either = λ x there. ⊎_elim
          (λ now. inl (there_from w.now v.now x (sym (objects x now.sum)) now))
          (λ gone. inr (subst (λ (l : List ObjName). Contains (take new.gone l) x) (sym on.removed) (subst (λ n. Contains (take n r.removed) x) (sym same) gone)))
          (going.either x there);
      doomed = doomed ∙ going.doomed ∙ sym on.removed;
      gone = count ∙ going.gone ∙ sym same;
      kept = subst (λ (l : List ObjName). AreKept (Except l) b' w lane) (sym on.removed)
          (kept_pins r.removed w b b' lane keeps (removal_kept (Except r.removed) b b lane lane v w W (spared_refl lane lane b) refl wrote removal going.kept));
      behind = behind;
    }

-- ---- behind the sync of all that comes behind the commits

module _ (k : Known) (depth lane : ℕ) (r : Sweeping) (v : View) (b : Books) (going : IsGoing k depth lane r v b) where
  -- each commit that goes is among the first, and these are gone
  commit_gone : r.gone ≡ r.commits → (o : ObjName) → Contains r.removed o → o.kind ≡ kind.Commit → shows v.now (path_of o) ≡ Vacant
  commit_gone all o has is = ⊎_elim
      (λ none. none)
      (λ some. absurd (going.swept.away o (at_front (where_is has.0)) (record { sum = (going.plan.there o has).sum; there = λ absent. some (ap (seen v.now) absent) })))
      (vacant_or (shows v.now (path_of o)))
    where
      where_is : (i : ℕ) → (i < r.commits) ⊎ (i ≡ r.commits) ⊎ (r.commits < i)
      where_is i = grind (arith)

      at_front : (has.0 < r.commits) ⊎ (has.0 ≡ r.commits) ⊎ (r.commits < has.0) → Contains (take r.gone r.removed) o
      at_front (inl less) = at_taken r.removed r.gone (omega (arith, all, going.plan.front.within)) o has.0 (omega (arith, less, all)) has.2
      at_front (inr (inl same)) = absurd (going.plan.front.others o (omega (arith, same, has.1)) (ap (λ (x : ObjName). x.kind) (ap (λ i. get_or r.removed i o) (sym same) ∙ has.2) ∙ is))
      at_front (inr (inr more)) = absurd (going.plan.others has.0 o more has.1 (ap (λ (x : ObjName). x.kind) has.2 ∙ is))

  -- of a mark that goes the commit isn't there
  mark_away : r.gone ≡ r.commits → (commit : List ℕ) → IsLost (Stays going.planned r) k.held commit → shows v.now (path_of (name_of kind.Commit commit)) ≡ Vacant
  mark_away all commit lost = ⊎_elim
      (λ none. none)
      (λ some.
      let there : IsThere v.now (name_of kind.Commit commit) = record { sum = lost.sum; there = λ absent. some (ap (seen v.now) absent) } in
      absurd (lost.goes (going.fewer (name_of kind.Commit commit) there, λ has. some (commit_gone all (name_of kind.Commit commit) has refl))))
      (vacant_or (shows v.now (path_of (name_of kind.Commit commit))))

  pub late_begins : r.gone ≡ r.commits → IsSettled (Except r.removed) (all_synced v) × AreNever (all_synced v) r.marks
  late_begins all = (
    settled_begins r.removed v (λ o has is. commit_gone all o has is),
    λ p has. let lost = going.plan.lost.each p has in (lost.0, lost.1.sum, lost.2, never_begins v lost.0 (mark_away all lost.0 lost.1)),
  )

-- ---- each step of the sweep

module _ (k : Known) (depth lane : ℕ) (r new : Sweeping) (v w : View) (b b' : Books) (keeps : Keeps lane b b') (on : GoesOn r new) (so_far : IsSoFar r) (begun : HasBegun k lane v b) where
  -- the change is published
  module _ (to_go : IsToGo k depth r v) where
    planned_there : (o : ObjName) (c : List ℕ) → Stores v.now o c → Stores to_go.planned o c
    planned_there o c has = stores_same v.now to_go.planned o c (sym (to_go.same o (IsSum-named o c has.named))) has

    kept_now : AreKept (Except r.removed) b' v lane
    kept_now = record {
      roots = λ o. ⊎_elim
          (λ pin. subst (λ x. ¬ (Contains r.removed x)) pin.3 (to_go.plan.roots pin.0.object (Contains-append_right k.roots k.held pin.0.object (begun.roots.held pin.0 (keeps.pinned pin.0 pin.2 pin.1) pin.2))))
          (λ root. to_go.plan.roots o (Contains-append_left k.roots k.held o (⊎_elim (begun.roots.all o) (λ listed. begun.roots.listed o (listed_before lane b b' o keeps listed)) root)));
      closed = λ o next kept refers. to_go.plan.closed o next kept (refers_where (Stores v.now) (Stores to_go.planned) o next (planned_there o) refers);
    }

    pub shown_going : new.gone ≡ r.gone → IsBehind new.part new v → b'.doomed ≡ r.removed → b'.gone ≡ 0 → IsGoing k depth lane new v b'
    shown_going same behind doomed count = record {
      planned = to_go.planned;
      plan = planned_on to_go.planned (from_of k) depth k.held r new on to_go.plan;
      swept = subst (λ (l : List ObjName). IsSwept to_go.planned l new.gone v.now) (sym on.removed)
          (swept_lasts to_go.planned r.removed new.gone to_go.planned v.now to_go.same (swept_begins to_go.planned r.removed new.gone (same ∙ to_go.fresh.1) to_go.plan.there));
      fewer = λ o there. there_from to_go.planned v.now o (to_go.same o there.sum) there;
      either = λ o there. inl (there_from v.now to_go.planned o (sym (to_go.same o there.sum)) there);
      doomed = doomed ∙ sym on.removed;
      gone = count ∙ sym (same ∙ to_go.fresh.1);
      kept = subst (λ (l : List ObjName). AreKept (Except l) b' v lane) (sym on.removed) kept_now;
      behind = behind;
    }

  -- a commit goes
  module _ (going : IsGoing k depth lane r v b) (doomed : b'.doomed ≡ b.doomed) where
    commit_next : (o : ObjName) → IsNext r o → r.gone < r.commits → o.kind ≡ kind.Commit
    commit_next o next less = sym (ap (λ (x : ObjName). x.kind) next.1) ∙ going.plan.front.commits r.gone o less

    took : (o : ObjName) (next : IsNext r o) → w ≡ named (path_of o) Absent v → new.gone ≡ r.gone + 1 → b'.gone ≡ b.gone + 1 → (settled : o.kind ≢ kind.Commit → IsSettled (Except r.removed) v)
        → IsMiddle new.part → (IsBehind new.part new (named (path_of o) Absent v)) → HasBegun k lane w b' × SweepKnows new.part k depth lane new w b'
    took o next is gone count settled middle behind = subst (λ (x : View). HasBegun k lane x b' × SweepKnows new.part k depth lane new x b') (sym is) (
      object_begun k depth lane r v b going o next new on gone b' keeps doomed count settled begun,
      going_knows new.part k depth lane new (named (path_of o) Absent v) b' middle (object_going k depth lane r v b going o next new on gone b' keeps doomed count settled behind),
    )

    late_took : (o : ObjName) (next : IsNext r o) → new.gone ≡ r.gone + 1 → b'.gone ≡ b.gone + 1 → IsSettled (Except r.removed) v × AreNever v r.marks → IsLate new.part → IsBehind new.part new (named (path_of o) Absent v)
    late_took o next gone count late is =
        behind_late new.part new (named (path_of o) Absent v) is (late_as r new (named (path_of o) Absent v) on (late_on k depth lane r v b going o next new on gone b' keeps doomed count (λ plain. late.0) late))

    -- nothing is written, or a mark goes
    module _ (same : new.gone ≡ r.gone) (count : b'.gone ≡ b.gone) where
      stays_as : (x : View) (W : Path → Seen → Type 0) → Writes W v x → Spares W → IsRemoval (Except r.removed) v W → ShowSameObjects v.now x.now → IsMiddle new.part → IsBehind new.part new x → HasBegun k lane x b' × SweepKnows new.part k depth lane new x b'
      stays_as x W wrote spares removal objects middle behind = (
        own_begun v x W wrote spares k lane b b' keeps begun,
        going_knows new.part k depth lane new x b' middle (still_going k depth lane r new v b b' going on same keeps doomed count x W wrote removal objects behind),
      )

      synced : w ≡ all_synced v → r.gone ≡ r.commits → IsLate new.part → HasBegun k lane w b' × SweepKnows new.part k depth lane new w b'
      unfolding all_synced
      synced is all late = subst (λ (x : View). HasBegun k lane x b' × SweepKnows new.part k depth lane new x b') (sym is)
          (stays_as (all_synced v) Nothing (all_synced-writes v) nothing_spares (inr (inr (λ p s x. x))) (λ o sum. refl) (late_middle new.part late)
          (behind_late new.part new (all_synced v) late (late_as r new (all_synced v) on (late_begins k depth lane r v b going all))))

      module _ (late : IsSettled (Except r.removed) v × AreNever v r.marks) (is_late : IsLate new.part) where
        as_it_was : w ≡ v → HasBegun k lane w b' × SweepKnows new.part k depth lane new w b'
        as_it_was is = subst (λ (x : View). HasBegun k lane x b' × SweepKnows new.part k depth lane new x b') (sym is)
            (stays_as v Nothing (record { only = λ p s may. inl may; now = λ p. inl refl }) nothing_spares (inr (inr (λ p s x. x))) (λ o sum. refl) (late_middle new.part is_late)
            (behind_late new.part new v is_late (late_as r new v on late)))

        module _ (p : Path) (next : IsNextMark r p) where
          abbrev is_never : (commit : List ℕ) × IsSum commit × (p ≡ mark_path commit) × IsNeverThere v commit
          is_never = late.1 p (r.unmarked, next.0, next.1)

          abbrev unmarked_view : View
          unmarked_view = named p Absent v

          wrote_mark : Writes (Vacated p) v unmarked_view
          wrote_mark = named-writes v p Absent

          removal_mark : IsRemoval (Except r.removed) v (Vacated p)
          removal_mark = inr (inl (record { commit = is_never.0; sum = is_never.1; never = is_never.3; vacates = λ q s w_. (w_.0 ∙ is_never.2, w_.1) }))

          objects_mark : ShowSameObjects v.now unmarked_view.now
          objects_mark o sum = ⊎_elim (λ same_. same_) (λ w_. absurd (mark_object is_never.0 o is_never.1 sum (sym (w_.0 ∙ is_never.2)))) (wrote_mark.now (path_of o))

          late_now : IsSettled (Except r.removed) unmarked_view × AreNever unmarked_view r.marks
          late_now = (
            removal_settled (Except r.removed) v unmarked_view (Vacated p) wrote_mark removal_mark late.0,
            λ q has. let n = late.1 q has in (n.0, n.1, n.2, removal_never (Except r.removed) v unmarked_view (Vacated p) wrote_mark removal_mark n.0 n.3),
          )

          marked : w ≡ unmarked_view → HasBegun k lane w b' × SweepKnows new.part k depth lane new w b'
          marked is = subst (λ (y : View). HasBegun k lane y b' × SweepKnows new.part k depth lane new y b') (sym is)
              (stays_as unmarked_view (Vacated p) wrote_mark (subst (λ q. Spares (Vacated q)) (sym is_never.2) (mark_spares is_never.0 is_never.1)) removal_mark objects_mark (late_middle new.part is_late)
              (behind_late new.part new unmarked_view is_late (late_as r new unmarked_view on late_now)))

  in_part : (x : Part) → r.part ≡ x → IsIn x r
  in_part x is = subst (λ y. IsIn y r) is so_far.part

  late_in : (x : Part) → r.part ≡ x → IsLate x → IsGoing k depth lane r v b → IsSettled (Except r.removed) v × AreNever v r.marks
  late_in x is late going = late_behind r.part r v (subst IsLate (sym is) late) going.behind

  pub sweep_next : (x : Part) (e : Event) (owed : ℕ) → r.part ≡ x → removed_by e ≡ r.removed → Did x r v w → Follows x new → Advances x r new → Owned (sweep_kind x e owed) lane b b' → SweepKnows x k depth lane r v b
      → HasBegun k lane w b' × SweepKnows new.part k depth lane new w b'
  sweep_next part.Begin e owed is removes did follows advances own to_go = subst (λ (y : View). HasBegun k lane y b' × SweepKnows new.part k depth lane new y b') (sym did) (
    begun_gains k lane v b b' keeps begun,
    going_knows new.part k depth lane new v b' (then_middle part.Begin new.part (follows_then part.Begin new follows))
        (shown_going to_go advances.0 (behind_early new.part new v (follows_then part.Begin new follows)) (own.0 ∙ removes) own.1),
  )
  sweep_next part.Commit e owed is removes did follows advances own going =
      let early = follows_then part.Commit new follows in
      took going own.0 did.0 did.1 did.2 advances.0 own.1 (λ plain. absurd (plain (commit_next going own.0 did.0 did.1 (in_part part.Commit is).0))) (early_middle new.part early) (behind_early new.part new _ early)
  sweep_next part.Barrier e owed is removes did follows advances own going =
      synced going own.0 advances.0 own.1 did (in_part part.Barrier is).0 (follows_then part.Barrier new follows)
  sweep_next part.Object e owed is removes did follows advances own going =
      let late = late_in part.Object is tt going in
      let is_late = follows_then part.Object new follows in
      took going own.0 did.0 did.1 did.2 advances.0 own.1 (λ plain. late.0) (late_middle new.part is_late) (late_took going own.0 did.0 did.1 advances.0 own.1 late is_late)
  sweep_next part.Mark e owed is removes did follows advances own going =
      let late = late_in part.Mark is tt going in
      let is_late = follows_then part.Mark new follows in
      ⊎_elim
      (λ gone. marked going own.0 advances.0 own.1 late is_late did.0 did.1 gone)
      (λ same. as_it_was going own.0 advances.0 own.1 late is_late same)
      did.2
  sweep_next part.End e owed is removes did follows advances own going = absurd follows
  sweep_next part.Over e owed is removes did follows advances own going = absurd follows

-- ---- the phases

pub known_next : (p n : Phase) (t : PruneCommand) (actor lane : ℕ) (v w : View) (b b' : Books) → Stood (kind_in p t) actor lane b → command.Follows t.depth p n → command.Goes t p n v w → Keeps lane b b' → Owned (kind_in p t) lane b b' → KnownIn p t lane v b → KnownIn n t lane w b'
known_next phase.Waiting phase.Unlearned t actor lane v w b b' stood follows goes keeps own known = (keeps.exclusive (stood.exclusive refl), keeps.turn (stood.turn refl))
known_next (phase.Listing l) (phase.Listing m) t actor lane v w b b' stood follows goes keeps own known =
    subst (λ (x : View). KnownIn (phase.Listing m) t lane x b') (sym goes.0) (begun_gains t.known lane v b b' keeps known.0, goes.1)
known_next (phase.Listing l) (phase.Marking m) t actor lane v w b b' stood follows goes keeps own known =
    subst (λ (x : View). KnownIn (phase.Marking m) t lane x b') (sym goes.0) (begun_gains t.known lane v b b' keeps known.0, goes.1, follows)
known_next (phase.Marking l) (phase.Marking m) t actor lane v w b b' stood follows goes keeps own known =
    subst (λ (x : View). KnownIn (phase.Marking m) t lane x b') (sym goes.0) (begun_gains t.known lane v b b' keeps known.0, goes.1, follows ∙ known.2)
known_next (phase.Marking l) (phase.Sweeping r) t actor lane v w b b' stood follows goes keeps own known =
    subst (λ (x : View). KnownIn (phase.Sweeping r) t lane x b') (sym goes.0) (
      begun_gains t.known lane v b b' keeps known.0,
      follows.1,
      subst (λ x. SweepKnows x t.known t.depth lane r v b') (sym follows.0.0)
          (record { planned = v.now; plan = subst (λ d. IsPlanned v.now (from_of t.known) d t.known.held r) known.2 goes.1; same = λ o sum. refl; fresh = follows.0 }),
    )
known_next (phase.Sweeping r) (phase.Sweeping n) t actor lane v w b b' stood follows goes keeps own known =
    let next = sweep_next t.known t.depth lane r n v w b b' keeps follows.0 known.1 known.0 r.part (change_of t r) (calls_of r) refl refl goes follows.0.follows follows.0.advances own known.2 in
    (next.0, follows.1, next.1)
known_next phase.Waiting phase.Waiting t actor lane v w b b' stood follows goes keeps own known = absurd follows
known_next phase.Waiting (phase.Listing y) t actor lane v w b b' stood follows goes keeps own known = absurd follows
known_next phase.Waiting (phase.Marking y) t actor lane v w b b' stood follows goes keeps own known = absurd follows
known_next phase.Waiting (phase.Sweeping y) t actor lane v w b b' stood follows goes keeps own known = absurd follows
known_next phase.Waiting (phase.Over y) t actor lane v w b b' stood follows goes keeps own known = absurd follows
known_next phase.Unlearned phase.Waiting t actor lane v w b b' stood follows goes keeps own known = absurd follows
known_next phase.Unlearned phase.Unlearned t actor lane v w b b' stood follows goes keeps own known = absurd follows
known_next phase.Unlearned (phase.Listing y) t actor lane v w b b' stood follows goes keeps own known = absurd follows
known_next phase.Unlearned (phase.Marking y) t actor lane v w b b' stood follows goes keeps own known = absurd follows
known_next phase.Unlearned (phase.Sweeping y) t actor lane v w b b' stood follows goes keeps own known = absurd follows
known_next phase.Unlearned (phase.Over y) t actor lane v w b b' stood follows goes keeps own known = absurd follows
known_next (phase.Listing x) phase.Waiting t actor lane v w b b' stood follows goes keeps own known = absurd follows
known_next (phase.Listing x) phase.Unlearned t actor lane v w b b' stood follows goes keeps own known = absurd follows
known_next (phase.Listing x) (phase.Sweeping y) t actor lane v w b b' stood follows goes keeps own known = absurd follows
known_next (phase.Listing x) (phase.Over y) t actor lane v w b b' stood follows goes keeps own known = absurd follows
known_next (phase.Marking x) phase.Waiting t actor lane v w b b' stood follows goes keeps own known = absurd follows
known_next (phase.Marking x) phase.Unlearned t actor lane v w b b' stood follows goes keeps own known = absurd follows
known_next (phase.Marking x) (phase.Listing y) t actor lane v w b b' stood follows goes keeps own known = absurd follows
known_next (phase.Marking x) (phase.Over y) t actor lane v w b b' stood follows goes keeps own known = absurd follows
known_next (phase.Sweeping x) phase.Waiting t actor lane v w b b' stood follows goes keeps own known = absurd follows
known_next (phase.Sweeping x) phase.Unlearned t actor lane v w b b' stood follows goes keeps own known = absurd follows
known_next (phase.Sweeping x) (phase.Listing y) t actor lane v w b b' stood follows goes keeps own known = absurd follows
known_next (phase.Sweeping x) (phase.Marking y) t actor lane v w b b' stood follows goes keeps own known = absurd follows
known_next (phase.Sweeping x) (phase.Over y) t actor lane v w b b' stood follows goes keeps own known = absurd follows
known_next (phase.Over x) phase.Waiting t actor lane v w b b' stood follows goes keeps own known = absurd follows
known_next (phase.Over x) phase.Unlearned t actor lane v w b b' stood follows goes keeps own known = absurd follows
known_next (phase.Over x) (phase.Listing y) t actor lane v w b b' stood follows goes keeps own known = absurd follows
known_next (phase.Over x) (phase.Marking y) t actor lane v w b b' stood follows goes keeps own known = absurd follows
known_next (phase.Over x) (phase.Sweeping y) t actor lane v w b b' stood follows goes keeps own known = absurd follows
known_next (phase.Over x) (phase.Over y) t actor lane v w b b' stood follows goes keeps own known = absurd follows

pub facts_next : (actor lane : ℕ) (t new : PruneCommand) (v w : View) (b b' : Books) → Stood (prune_kind t) actor lane b → Facts lane t v b → prune_leaves t turn.More new v w → Keeps lane b b' → Owned (prune_kind t) lane b b' → Facts lane new w b'
facts_next actor lane t new v w b b' stood f leaves keeps own = subst (λ (x : PruneCommand). Facts lane x w b') (sym leaves.0) (record {
  mine = f.mine;
  known = known_as new.phase (known_next t.phase new.phase t actor lane v w b b' stood leaves.1 leaves.2 keeps own f.known);
})
  where
    known_as : (p : Phase) → KnownIn p t lane w b' → KnownIn p (record t { phase = new.phase }) lane w b'
    known_as phase.Waiting k = k
    known_as phase.Unlearned k = k
    known_as (phase.Listing l) k = k
    known_as (phase.Marking m) k = k
    known_as (phase.Sweeping r) k = k
    known_as (phase.Over a) k = k
