-- What the steps that remove write, and what the last one leaves.
use Rattle.std.proofs.Common.{◌≡◌, ◌≢◌, ◌⊎◌, ⊎_elim, inl, inr, ◌<◌, ℕ, zero, suc, List, [], ◌∷◌, length, get_or, take, drop, Contains, refl, sym, ◌∙◌, ap, subst, arith}
use Rattle.std.proofs.lemmas.List.{get_or_default, take_all}
use Rattle.ost_types.specs.declared.limits.Limits.{Limits}
use Rattle.ost_types.specs.declared.object.Kind.TheVariants as kind
use Rattle.ost_types.specs.declared.object.ObjName.{ObjName}
use Rattle.ost_types.specs.Path.{Name, Path}
use Rattle.fs_trait.specs.declared.task.StepResult.TheVariants as turn
use Rattle.fs_trait.specs.Change.{Writes}
use Rattle.fs_trait.specs.Seen.{NotDirectory, Seen, Vacant, seen, shows}
use Rattle.fs_trait.specs.View.{View, all_synced}
use Rattle.repo_layout.specs.BootPaths.{checkout_path}
use Rattle.repo_layout.specs.Paths.{mark_path, stage_path}
use Rattle.repo_layout.specs.Place.{Checkout, Mark, Object, place}
use Rattle.repo_layout.specs.RefFile.{IsSum}
use Rattle.repo_layout.proofs.Places.{place-checkout, place-mark, place-object}
use Rattle.repo_model.specs.Objects.{Store, path_of}
use Rattle.store_check.specs.Listing.{IsThere}
use Rattle.rely_guarantee.specs.declared.event.Event.{Event}
use Rattle.rely_guarantee.specs.Books.{Books}
use Rattle.rely_guarantee.specs.Laws.{Quiet, Remove, MakeDurable, Publish, Published, Take}
use Rattle.rely_guarantee.specs.Rely.{IsBoot}
use Rattle.rely_guarantee.specs.Removing.{next_of}
use Rattle.durable_store.specs.Removals.{AreDifferent, Except, IsSettled}
use Rattle.durable_store.specs.Writing.{KeepsStore}
use Rattle.durable_store.proofs.Apart.{vacant_or}
use Rattle.durable_store.proofs.Silent.{silent_keeps}
use Rattle.prune_sweep.specs.declared.part.Part.{Part}
use Rattle.prune_sweep.specs.declared.part.Part.TheVariants as part
use Rattle.prune_sweep.specs.Steps.{IsNext}
use Rattle.prune_sweep.specs.Sweeping.{IsIn, IsSoFar, Sweeping, calls_of}
use Rattle.prune_command.specs.declared.answer.PruneAnswer.{PruneAnswer}
use Rattle.prune_command.specs.declared.answer.PruneAnswer.TheVariants as answer
use Rattle.prune_command.specs.declared.command.PruneCommand.{PruneCommand}
use Rattle.prune_command.specs.declared.known.Known.{Known}
use Rattle.prune_command.specs.declared.phase.Phase.{Phase}
use Rattle.prune_command.specs.declared.phase.Phase.TheVariants as phase
use Rattle.prune_command.specs.Commands.{Tells, change_of, kind_in, prune_kind, prune_leaves, prune_wants, prune_writes, writes_in}
use Rattle.prune_command.specs.Facts.{AreNever, IsGoing, KnownIn, SweepKnows, prune_facts}
use Rattle.prune_command.specs.Nexts.{IsLate, late_behind, object_sum}
use Rattle.prune_command.specs.SweepSteps.{Did, Unlinks, sweep_kind, sweep_writes}
use Rattle.command.specs.Removing.{AreRemoved, IsPrune, IsRemoving, Removes}
use Rattle.command.specs.Staging.{StagingPathFree}

-- ---- lists

-- what stands at a place within the list
at_place : {X : Type 0} (xs : List X) (n : ℕ) (d : X) → n < length xs → get_or xs n (get_or xs n d) ≡ get_or xs n d
at_place xs n d less = get_or_default xs n (get_or xs n d) d less

first_of : {X : Type 0} (xs : List X) (x : X) → Contains (take 1 xs) x → Contains xs x
first_of [] x has = has
first_of (y ∷ xs) x (zero, less, is) = (0, omega arith, is)
first_of (y ∷ xs) x (suc k, less, is) = absurd (omega (arith, less))

-- names of which no two places have the same
once_different : (xs : List ObjName) → ((i j : ℕ) (o : ObjName) → i < length xs → j < length xs → get_or xs i o ≡ o → get_or xs j o ≡ o → i ≡ j) → AreDifferent xs
once_different [] once = tt
once_different (x ∷ xs) once = (
  λ has. (let less = has.1 in let e = once 0 (suc has.0) x (omega arith) (omega (arith, less)) refl has.2 in omega (arith, e)),
  once_different xs (λ i j o less also at too. (let e = once (suc i) (suc j) o (omega (arith, less)) (omega (arith, also)) at too in omega (arith, e))),
)

-- ---- while objects go

no_name : ObjName
no_name = record { kind = kind.Commit; csum = [] }

module _ (k : Known) (depth lane : ℕ) (r : Sweeping) (v : View) (b : Books) (going : IsGoing k depth lane r v b) where
  removes_next : (o : ObjName) → IsNext r o → (o.kind ≢ kind.Commit → IsSettled (Except r.removed) v) → Removes b v lane (Unlinks r)
  removes_next o next settled = record {
    doomed = r.removed;
    kept = going.kept;
    removes = inl (record {
      name = o;
      sum = object_sum k depth lane r v b going o next;
      gone = λ kept. kept (r.gone, next.0, next.1);
      settled = settled;
      vacates = λ p s wrote. (wrote.2 ∙ ap path_of (sym wrote.1.1 ∙ get_or_default r.removed r.gone wrote.0 o next.0 ∙ next.1), wrote.3);
    });
  }

  removes_object : r.gone < length r.removed → ((o : ObjName) → IsNext r o → o.kind ≢ kind.Commit → IsSettled (Except r.removed) v) → Removes b v lane (Unlinks r)
  removes_object less settled =
      let o = get_or r.removed r.gone no_name in
      let next : IsNext r o = (less, at_place r.removed r.gone no_name less) in
      removes_next o next (settled o next)

  removes_mark : AreNever v r.marks → r.unmarked < length r.marks → Removes b v lane (sweep_writes part.Mark r)
  removes_mark never less =
      let n = never (get_or r.marks r.unmarked []) (r.unmarked, less, at_place r.marks r.unmarked [] less) in
      record {
        doomed = r.removed;
        kept = going.kept;
        removes = inr (inl (record {
          commit = n.0;
          sum = n.1;
          never = n.3;
          vacates = λ p s wrote. (sym wrote.0.1 ∙ get_or_default r.marks r.unmarked p [] less ∙ n.2, wrote.1);
        }));
      }

  removes_nothing : (W : Path → Seen → Type 0) → ((p : Path) (s : Seen) → W p s → ⊥) → Removes b v lane W
  removes_nothing W none = record { doomed = r.removed; kept = going.kept; removes = inr (inr none) }

  next_there : (o : ObjName) → Contains (next_of b) o → IsThere v.now o
  next_there o has = going.swept.rest o (first_of (drop r.gone r.removed) o
      (subst (λ (l : List ObjName). Contains (take 1 (drop r.gone l)) o) going.doomed (subst (λ n. Contains (take 1 (drop n b.doomed)) o) going.gone has)))

  all_removed : (w : View) → r.gone ≡ length r.removed → w ≡ all_synced v → AreRemoved b v w
  all_removed w over synced = record {
    synced = synced;
    different = subst AreDifferent (sym (front ∙ whole)) (once_different r.removed going.plan.once);
    away = away;
  }
    where
      front : take b.gone b.doomed ≡ take r.gone r.removed
      front = λ i. take (going.gone i) (going.doomed i)

      whole : take r.gone r.removed ≡ r.removed
      whole = ap (λ n. take n r.removed) over ∙ take_all (length r.removed) r.removed (omega arith)

      away : (o : ObjName) → Contains (take b.gone b.doomed) o → shows v.now (path_of o) ≡ Vacant
      away o has =
          let gone : Contains (take r.gone r.removed) o = subst (λ (l : List ObjName). Contains l o) front has in
          let sum = (going.plan.there o (subst (λ (l : List ObjName). Contains l o) whole gone)).sum in
          ⊎_elim
          (λ vacant. vacant)
          (λ some. absurd (going.swept.away o gone (record { sum = sum; there = λ absent. some (ap (seen v.now) absent) })))
          (vacant_or (shows v.now (path_of o)))

-- ---- by the part of the sweep

module _ (k : Known) (depth lane : ℕ) (r : Sweeping) (v : View) (b : Books) (so_far : IsSoFar r) where
  in_part : (x : Part) → r.part ≡ x → IsIn x r
  in_part x is = subst (λ y. IsIn y r) is so_far.part

  late : (x : Part) → r.part ≡ x → IsLate x → IsGoing k depth lane r v b → IsSettled (Except r.removed) v × AreNever v r.marks
  late x is after going = late_behind r.part r v (subst IsLate (sym is) after) going.behind

  sweep_removes : (x : Part) (e : Event) (owed : ℕ) → r.part ≡ x → SweepKnows x k depth lane r v b → IsRemoving (sweep_kind x e owed) → Removes b v lane (sweep_writes x r)
  sweep_removes part.Begin e owed is knows removing = absurd removing
  sweep_removes part.Commit e owed is going removing =
      let at : r.gone < r.commits = (in_part part.Commit is).0 in
      removes_object k depth lane r v b going (omega (arith, at, so_far.commits))
      (λ o next other. absurd (other (sym (ap (λ (x : ObjName). x.kind) next.1) ∙ going.plan.front.commits r.gone o at)))
  sweep_removes part.Barrier e owed is going removing = removes_nothing k depth lane r v b going (sweep_writes part.Barrier r) (λ p s wrote. wrote)
  sweep_removes part.Object e owed is going removing = removes_object k depth lane r v b going (in_part part.Object is).1 (λ o next other. (late part.Object is tt going).0)
  sweep_removes part.Mark e owed is going removing = removes_mark k depth lane r v b going (late part.Mark is tt going).1 (in_part part.Mark is).1
  sweep_removes part.End e owed is going removing = removes_nothing k depth lane r v b going (sweep_writes part.End r) (λ p s wrote. wrote)
  sweep_removes part.Over e owed is knows removing = absurd removing

  sweep_takes : (x : Part) (d e : Event) (calls owed : ℕ) (o : ObjName) → SweepKnows x k depth lane r v b → sweep_kind x d calls ≡ Remove e owed → Contains (next_of b) o → IsThere v.now o
  sweep_takes part.Begin d e calls owed o knows is has = (let no : Publish d ≡ Remove e owed = is in cc)
  sweep_takes part.Commit d e calls owed o going is has = next_there k depth lane r v b going o has
  sweep_takes part.Barrier d e calls owed o going is has = next_there k depth lane r v b going o has
  sweep_takes part.Object d e calls owed o going is has = next_there k depth lane r v b going o has
  sweep_takes part.Mark d e calls owed o going is has = next_there k depth lane r v b going o has
  sweep_takes part.End d e calls owed o going is has = next_there k depth lane r v b going o has
  sweep_takes part.Over d e calls owed o knows is has = absurd knows

  sweep_ends : (x : Part) (d e : Event) (calls : ℕ) (w : View) → r.part ≡ x → SweepKnows x k depth lane r v b → sweep_kind x d calls ≡ MakeDurable e → Did x r v w → AreRemoved b v w
  sweep_ends part.Begin d e calls w at knows is did = (let no : Publish d ≡ MakeDurable e = is in cc)
  sweep_ends part.Commit d e calls w at going is did = (let no : Remove d calls ≡ MakeDurable e = is in cc)
  sweep_ends part.Barrier d e calls w at going is did = (let no : Published d calls ≡ MakeDurable e = is in cc)
  sweep_ends part.Object d e calls w at going is did = (let no : Remove d calls ≡ MakeDurable e = is in cc)
  sweep_ends part.Mark d e calls w at going is did = (let no : Published d calls ≡ MakeDurable e = is in cc)
  sweep_ends part.End d e calls w at going is did = all_removed k depth lane r v b going w (in_part part.End at).0 did
  sweep_ends part.Over d e calls w at knows is did = absurd knows

sweep_silent : (x : Part) (e : Event) (owed : ℕ) (r : Sweeping) → IsPrune e → ¬ (IsRemoving (sweep_kind x e owed)) → (p : Path) (s : Seen) → sweep_writes x r p s → ⊥
sweep_silent part.Begin e owed r prune still p s wrote = wrote
sweep_silent part.Commit e owed r prune still p s wrote = still tt
sweep_silent part.Barrier e owed r prune still p s wrote = wrote
sweep_silent part.Object e owed r prune still p s wrote = still tt
sweep_silent part.Mark e owed r prune still p s wrote = still prune
sweep_silent part.End e owed r prune still p s wrote = wrote
sweep_silent part.Over e owed r prune still p s wrote = wrote

sweep_vacant : (x : Part) (r : Sweeping) (p : Path) (s : Seen) → sweep_writes x r p s → s ≡ Vacant
sweep_vacant part.Begin r p s wrote = absurd wrote
sweep_vacant part.Commit r p s wrote = wrote.3
sweep_vacant part.Barrier r p s wrote = absurd wrote
sweep_vacant part.Object r p s wrote = wrote.3
sweep_vacant part.Mark r p s wrote = wrote.1
sweep_vacant part.End r p s wrote = absurd wrote
sweep_vacant part.Over r p s wrote = absurd wrote

-- ---- by the phase

removes_in : (p : Phase) (t : PruneCommand) (lane : ℕ) (v : View) (b : Books) → KnownIn p t lane v b → IsRemoving (kind_in p t) → Removes b v lane (writes_in p)
removes_in phase.Waiting t lane v b known removing = absurd removing
removes_in phase.Unlearned t lane v b known removing = absurd removing
removes_in (phase.Listing l) t lane v b known removing = absurd removing
removes_in (phase.Marking m) t lane v b known removing = absurd removing
removes_in (phase.Sweeping r) t lane v b known removing = sweep_removes t.known t.depth lane r v b known.1 r.part (change_of t r) (calls_of r) refl known.2 removing
removes_in (phase.Over a) t lane v b known removing = absurd removing

takes_in : (p : Phase) (t : PruneCommand) (lane : ℕ) (v : View) (b : Books) (e : Event) (owed : ℕ) (o : ObjName) → KnownIn p t lane v b → kind_in p t ≡ Remove e owed → Contains (next_of b) o → IsThere v.now o
takes_in phase.Waiting t lane v b e owed o known is has = (let no : Take prune_wants ≡ Remove e owed = is in cc)
takes_in phase.Unlearned t lane v b e owed o known is has = (let no : Quiet ≡ Remove e owed = is in cc)
takes_in (phase.Listing l) t lane v b e owed o known is has = (let no : Quiet ≡ Remove e owed = is in cc)
takes_in (phase.Marking m) t lane v b e owed o known is has = (let no : Quiet ≡ Remove e owed = is in cc)
takes_in (phase.Sweeping r) t lane v b e owed o known is has = sweep_takes t.known t.depth lane r v b known.1 r.part (change_of t r) e (calls_of r) owed o known.2 is has
takes_in (phase.Over a) t lane v b e owed o known is has = (let no : Quiet ≡ Remove e owed = is in cc)

ends_in : (p : Phase) (t : PruneCommand) (lane : ℕ) (v w : View) (b : Books) (e : Event) (a : PruneAnswer) → KnownIn p t lane v b → kind_in p t ≡ MakeDurable e → Tells t p a v w → AreRemoved b v w
ends_in phase.Waiting t lane v w b e a known is tells = (let no : Take prune_wants ≡ MakeDurable e = is in cc)
ends_in phase.Unlearned t lane v w b e a known is tells = (let no : Quiet ≡ MakeDurable e = is in cc)
ends_in (phase.Listing l) t lane v w b e a known is tells = (let no : Quiet ≡ MakeDurable e = is in cc)
ends_in (phase.Marking m) t lane v w b e a known is tells = (let no : Quiet ≡ MakeDurable e = is in cc)
ends_in (phase.Sweeping r) t lane v w b e (answer.Pruned kept removed) known is tells = sweep_ends t.known t.depth lane r v b known.1 r.part (change_of t r) e (calls_of r) w refl known.2 is tells
ends_in (phase.Sweeping r) t lane v w b e (answer.Outside o) known is tells = absurd tells
ends_in (phase.Over x) t lane v w b e a known is tells = absurd known

silent_in : (p : Phase) (t : PruneCommand) → ¬ (IsRemoving (kind_in p t)) → (q : Path) (s : Seen) → writes_in p q s → ⊥
silent_in phase.Waiting t still q s wrote = wrote
silent_in phase.Unlearned t still q s wrote = wrote
silent_in (phase.Listing l) t still q s wrote = wrote
silent_in (phase.Marking m) t still q s wrote = wrote
silent_in (phase.Sweeping r) t still q s wrote = sweep_silent r.part (change_of t r) (calls_of r) r tt still q s wrote
silent_in (phase.Over a) t still q s wrote = wrote

vacant_in : (p : Phase) (q : Path) (s : Seen) → writes_in p q s → s ≡ Vacant
vacant_in phase.Waiting q s wrote = absurd wrote
vacant_in phase.Unlearned q s wrote = absurd wrote
vacant_in (phase.Listing l) q s wrote = absurd wrote
vacant_in (phase.Marking m) q s wrote = absurd wrote
vacant_in (phase.Sweeping r) q s wrote = sweep_vacant r.part r q s wrote
vacant_in (phase.Over a) q s wrote = absurd wrote

-- ---- of the task

-- each step that removes takes what isn't kept, or a mark
pub removes_of : (actor lane : ℕ) (t : PruneCommand) (v : View) (b : Books) → prune_facts lane t v b → IsRemoving (prune_kind t) → Removes b v lane (prune_writes actor t v)
removes_of actor lane t v b f removing = removes_in t.phase t lane v b f.known removing

-- from where it stood
pub takes_of : (lane : ℕ) (t new : PruneCommand) (v w : View) (b : Books) (e : Event) (owed : ℕ) (o : ObjName) → prune_facts lane t v b → prune_kind t ≡ Remove e owed → prune_leaves t turn.More new v w → Contains (next_of b) o → IsThere v.now o
takes_of lane t new v w b e owed o f is leaves has = takes_in t.phase t lane v b e owed o f.known is has

-- behind the last one all of it is gone for good
pub ends_of : (lane : ℕ) (t new : PruneCommand) (v w : View) (b : Books) (e : Event) → prune_facts lane t v b → prune_kind t ≡ MakeDurable e → IsPrune e → prune_leaves t (turn.Done tt) new v w → AreRemoved b v w
ends_of lane t new v w b e f is prune leaves = ends_in t.phase t lane v w b e leaves.0 f.known is leaves.3

-- each other step writes nothing
pub keeps_of : (limits : Limits) (brings : Store) (actor : ℕ) (t : PruneCommand) (v : View) → ¬ (IsRemoving (prune_kind t)) → KeepsStore limits brings v (prune_writes actor t v)
keeps_of limits brings actor t v still = silent_keeps limits brings v (prune_writes actor t v) (λ p s wrote. silent_in t.phase t still p s wrote)

-- what is written is vacant from then on, so no folder comes where anyone stages
pub vacant_only : (actor : ℕ) (t : PruneCommand) (v : View) (p : Path) (s : Seen) → prune_writes actor t v p s → s ≡ Vacant
vacant_only actor t v p s wrote = vacant_in t.phase p s wrote

pub no_stage : (lane who actor : ℕ) (t : PruneCommand) (v w : View) (b : Books) → prune_facts lane t v b → Writes (prune_writes actor t v) v w → StagingPathFree who v → StagingPathFree who w
no_stage lane who actor t v w b f writes free = ⊎_elim
    (λ same. subst NotDirectory (sym same) free)
    (λ wrote. subst NotDirectory (sym (vacant_only actor t v (stage_path who) (shows w.now (stage_path who)) wrote)) tt)
    (writes.now (stage_path who))

-- ---- where it writes

-- the path is that of an object or of a mark
abbrev IsWhere : Path → Type 0
IsWhere p = ((o : ObjName) × IsSum o.csum × (p ≡ path_of o)) ⊎ ((commit : List ℕ) × IsSum commit × (p ≡ mark_path commit))

module _ (k : Known) (depth lane : ℕ) (r : Sweeping) (v : View) (b : Books) where
  where_next : IsGoing k depth lane r v b → (p : Path) (s : Seen) → Unlinks r p s → IsWhere p
  where_next going p s wrote = inl (wrote.0, object_sum k depth lane r v b going wrote.0 wrote.1, wrote.2)

  sweep_where : (x : Part) → r.part ≡ x → SweepKnows x k depth lane r v b → (p : Path) (s : Seen) → sweep_writes x r p s → IsWhere p
  sweep_where part.Begin is knows p s wrote = absurd wrote
  sweep_where part.Commit is going p s wrote = where_next going p s wrote
  sweep_where part.Barrier is going p s wrote = absurd wrote
  sweep_where part.Object is going p s wrote = where_next going p s wrote
  sweep_where part.Mark is going p s wrote =
      let never = (late_behind r.part r v (subst IsLate (sym is) tt) going.behind).1 in
      let n = never p (r.unmarked, wrote.0.0, wrote.0.1) in
      inr (n.0, n.1, n.2)
  sweep_where part.End is going p s wrote = absurd wrote
  sweep_where part.Over is knows p s wrote = absurd wrote

where_in : (x : Phase) (t : PruneCommand) (lane : ℕ) (v : View) (b : Books) → KnownIn x t lane v b → (p : Path) (s : Seen) → writes_in x p s → IsWhere p
where_in phase.Waiting t lane v b known p s wrote = absurd wrote
where_in phase.Unlearned t lane v b known p s wrote = absurd wrote
where_in (phase.Listing l) t lane v b known p s wrote = absurd wrote
where_in (phase.Marking m) t lane v b known p s wrote = absurd wrote
where_in (phase.Sweeping r) t lane v b known p s wrote = sweep_where t.known t.depth lane r v b r.part refl known.2 p s wrote
where_in (phase.Over a) t lane v b known p s wrote = absurd wrote

-- so at no checkout's
pub no_checkout : (lane actor : ℕ) (t : PruneCommand) (v : View) (b : Books) (name : Name) (s : Seen) → prune_facts lane t v b → prune_writes actor t v (checkout_path name) s → ⊥
no_checkout lane actor t v b name s f wrote = ⊎_elim
    (λ o. (let n : Checkout name [] ≡ Object o.0.kind o.0.csum = sym (place-checkout name []) ∙ ap place o.2 ∙ place-object o.0.kind o.0.csum o.1 in cc))
    (λ m. (let n : Checkout name [] ≡ Mark m.0 = sym (place-checkout name []) ∙ ap place m.2 ∙ place-mark m.0 m.1 in cc))
    (where_in t.phase t lane v b f.known (checkout_path name) s wrote)

-- nor where what boots stands
pub no_boot : (lane : ℕ) (t : PruneCommand) (v : View) (b : Books) (p : Path) (s : Seen) → prune_facts lane t v b → writes_in t.phase p s → IsBoot (place p) → ⊥
no_boot lane t v b p s f wrote boot = ⊎_elim
    (λ o. (let n : IsBoot (Object o.0.kind o.0.csum) = subst IsBoot (ap place o.2 ∙ place-object o.0.kind o.0.csum o.1) boot in n))
    (λ m. (let n : IsBoot (Mark m.0) = subst IsBoot (ap place m.2 ∙ place-mark m.0 m.1) boot in n))
    (where_in t.phase t lane v b f.known p s wrote)
