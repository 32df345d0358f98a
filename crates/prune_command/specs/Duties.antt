-- What each step writes is what the rules let the lane write.
use Rattle.std.proofs.Common.{◌≡◌, ◌≢◌, ◌⊎◌, ⊎_elim, inl, inr, ◌<◌, ◌≤◌, ◌+◌, ◌-◌, ℕ, suc, List, [], length, get_or, take, drop, Contains, Some, None, Option, refl, sym, ◌∙◌, ap, subst, arith}
use Rattle.std.specs.Prelude.{◌↔◌}
use Rattle.std.proofs.lemmas.List.{get_or-drop, length-drop}
use Rattle.ost_types.specs.declared.meta.Meta.{Meta}
use Rattle.ost_types.specs.declared.object.Kind as object
use Rattle.ost_types.specs.declared.object.ObjName.{ObjName}
use Rattle.ost_types.specs.Path.{Name, Path}
use Rattle.fs_trait.specs.declared.task.StepResult.TheVariants as turn
use Rattle.fs_trait.specs.Seen.{Leaf, NotDirectory, Seen, Vacant, shows}
use Rattle.fs_trait.specs.View.{View}
use Rattle.fs_trait.proofs.Effects.{may_now}
use Rattle.repo_layout.specs.Paths.{mark_path, ref_path}
use Rattle.repo_layout.specs.Place.{Checkout, Mark, Object, Other, Ref, place}
use Rattle.repo_layout.specs.RefFile.{IsSum}
use Rattle.repo_layout.proofs.Places.{place-mark, place-object}
use Rattle.layout_rules.specs.declared.rule.Rule.{Rule}
use Rattle.layout_rules.specs.declared.rule.Rule.TheVariants.{FileOrNothing, FolderOrNothing, NoFolder}
use Rattle.layout_rules.specs.InLayout.{InLayout, SuitsSeen}
use Rattle.layout_rules.proofs.Layouts.{above_ref}
use Rattle.repo_model.specs.Objects.{path_of}
use Rattle.repo_model.specs.Trees.{name_of}
use Rattle.store_check.specs.Listing.{IsThere}
use Rattle.rely_guarantee.specs.declared.books.Pin.{Pin}
use Rattle.rely_guarantee.specs.declared.event.Event.{Event}
use Rattle.rely_guarantee.specs.Books.{Books, Free, listed_in}
use Rattle.rely_guarantee.specs.Change.{Away, Dooms, Final, Shows, TakesNone}
use Rattle.rely_guarantee.specs.Disks.{Logical, Says}
use Rattle.rely_guarantee.specs.Laws as rely
use Rattle.rely_guarantee.specs.Laws.{Chain, Claim, IsLastly, Kind, Quiet, Remove, MakeDurable, Publish, Published, StepObligation, Take, Within}
use Rattle.rely_guarantee.specs.Rely.{Guarantee, HasNoRefs, NotPinned, may_at}
use Rattle.rely_guarantee.specs.Removing.{IsGuarded, next_of}
use Rattle.rely_guarantee.specs.State.{IsCommitOf, RefOf, Said, commits_of, SystemState, IsDeployedCommit}
use Rattle.rely_guarantee.proofs.States.{says_one}
use Rattle.durable_store.proofs.Apart.{mark_object}
use Rattle.durable_store.proofs.Kept.{kept_guarded}
use Rattle.durable_store.specs.Removals.{Except}
use Rattle.prune_sweep.specs.declared.part.Part.{Part}
use Rattle.prune_sweep.specs.declared.part.Part.TheVariants as part
use Rattle.prune_sweep.specs.Steps.{IsNext, IsNextMark}
use Rattle.prune_sweep.specs.Sweeping.{GoesOn, IsIn, IsSoFar, Sweeping, calls_in, calls_of, left_in, left_of, rest_of}
use Rattle.prune_sweep.proofs.Going.{at_left, at_taken}
use Rattle.prune_command.specs.declared.answer.PruneAnswer.TheVariants as answer
use Rattle.prune_command.specs.declared.command.PruneCommand.{PruneCommand}
use Rattle.prune_command.specs.declared.known.Known.{Known}
use Rattle.prune_command.specs.declared.phase.Phase.{Phase}
use Rattle.prune_command.specs.declared.phase.Phase.TheVariants as phase
use Rattle.prune_command.specs.Commands as command
use Rattle.prune_command.specs.Commands.{change_of, kind_in, needs_in, prune_kind, prune_needs, prune_stepped, prune_wants, prune_writes, writes_in}
use Rattle.prune_command.specs.Facts.{AreNever, AreRootsOf, Facts, HasBegun, IsGoing, KnownIn, SweepKnows}
use Rattle.prune_command.specs.Nexts.{IsLate, IsMiddle, IsThen, Vacated, follows_then, late_behind, mark_spares, object_spares, object_sum, then_middle}
use Rattle.prune_command.specs.SweepSteps.{Unlinks, sweep_kind, sweep_needs, sweep_writes}

-- ---- the change is one of the state that is shown

named_by : (name : List ℕ) (v : View) (roots held : List ObjName) (lane : ℕ) (b : Books) → AreRootsOf roots held lane v b → (o : ObjName) (value : Said) (commit : List ℕ) → Says (RefOf name) value (shows v.now (ref_path name))
    → Contains (commits_of value) commit → o ≡ name_of object.TheVariants.Commit commit → Contains roots o
named_by name v roots held lane b are o None commit says among is = absurd (omega (arith, among.1))
named_by name v roots held lane b are o (Some c) commit says among is = are.all o (RefOf name, Some c, shows v.now (ref_path name), may_now v (ref_path name), says, commit, among, is)

has_roots : (depth : ℕ) (k : Known) (removed : List ObjName) (lane : ℕ) (v : View) (b : Books) → AreRootsOf k.roots k.held lane v b → (s : SystemState) → Logical v.now s.refs → s.deployments ≡ listed_in b → (o : ObjName) → Contains k.roots o ↔ IsCommitOf s o
has_roots depth k removed lane v b are s shown same o = (to, from)
  where
    to : Contains k.roots o → IsCommitOf s o
    to has = ⊎_elim
        (λ at.
        let says : s.refs (RefOf at.0) ≡ Some at.1 = says_one (RefOf at.0) (s.refs (RefOf at.0)) (Some at.1) (shows v.now (ref_path at.0)) (shown (RefOf at.0)) at.2 in
        inl (RefOf at.0, at.1, subst (λ (x : Said). Contains (commits_of x) at.1) (sym says) (0, omega arith, refl), at.3))
        (λ listed. inr (subst (λ ids. IsDeployedCommit ids o) (sym same) listed))
        (are.right o has)

    from : IsCommitOf s o → Contains k.roots o
    from (inl (RefOf name, commit, among, is)) = named_by name v k.roots k.held lane b are o (s.refs (RefOf name)) commit (shown (RefOf name)) among is
    from (inr deployed) = are.listed o (subst (λ ids. IsDeployedCommit ids o) same deployed)

-- ---- what goes may go

vacant_suits : (rule : Rule) → SuitsSeen rule Vacant
vacant_suits FolderOrNothing = tt
vacant_suits NoFolder = tt
vacant_suits FileOrNothing = tt

vacant_fits : (p : Path) → InLayout p Vacant
vacant_fits p = record { suits = λ rule is. vacant_suits rule; bounds = λ some. absurd (some refl) }

same_or_not : (a b : ℕ) → (a ≡ b) ⊎ (a ≢ b)
same_or_not a b = grind (arith)

free_own : (lane : ℕ) (lock : Option ℕ) → lock ≡ Some lane → Free lock lane
free_own lane lock is x has = let e : Some x ≡ Some lane = sym has ∙ is in cc

module _ (k : Known) (depth lane : ℕ) (r : Sweeping) (v : View) (b : Books) (begun : HasBegun k lane v b) (going : IsGoing k depth lane r v b) where
  module _ (o : ObjName) (next : IsNext r o) where
    sum : IsSum o.csum
    sum = object_sum k depth lane r v b going o next

    goes : Contains r.removed o
    goes = (r.gone, next.0, next.1)

    is_next : Contains (next_of b) o
    is_next = subst (λ (l : List ObjName). Contains (take 1 (drop b.gone l)) o) (sym going.doomed) (subst (λ n. Contains (take 1 (drop n r.removed)) o) (sym going.gone) (
        let long = length-drop r.gone r.removed in
        at_taken (drop r.gone r.removed) 1 (omega (arith, next.0, long)) o 0 (omega arith) (get_or-drop r.gone r.removed 0 o ∙ ap (λ i. get_or r.removed i o) (omega arith) ∙ next.1)))

    unpinned : NotPinned b.pins lane o.kind o.csum
    unpinned p has kind csum = ⊎_elim
        (λ same. same)
        (λ apart.
        let it : p.object ≡ o = λ i. record { csum = csum i; kind = kind i } in
        absurd (going.kept.roots o (inl (p, has, apart, it)) goes))
        (same_or_not p.lane lane)

    object_within : (p : Path) → p ≡ path_of o → Guarantee b v lane lane p Vacant
    object_within p is =
        let at : place p ≡ Object o.kind o.csum = ap place is ∙ place-object o.kind o.csum sum in
        record {
          at = subst (λ x. may_at b lane lane x Vacant) (sym at) (free_own lane b.exclusive begun.exclusive, tt, λ e. unpinned);
          fits = vacant_fits p;
          objects = λ kind csum there.
              (let same : Object o.kind o.csum ≡ Object kind csum = sym at ∙ there in
              let kinds : o.kind ≡ kind = cc in
              let sums : o.csum ≡ csum = cc in
              let one : o ≡ name_of kind csum = λ i. record { csum = sums i; kind = kinds i } in
              inr (refl, subst (Contains (next_of b)) one is_next, λ guarded. kept_guarded (Except r.removed) b v lane going.kept (name_of kind csum) guarded (subst (Contains r.removed) one goes)));
          marks = λ commit there some. absurd (some refl);
          checkouts = λ name there. (let n : Object o.kind o.csum ≡ Checkout name [] = sym at ∙ there in cc);
          comes = λ n m bytes e. absurd (let no : Vacant ≡ Leaf n m bytes = e in cc);
          folders = inr (inl (subst (λ q. NotDirectory (shows v.now q)) (sym is) (begun.leaves o sum)));
        }

  objects_within : Within (Unlinks r) (Guarantee b v lane lane)
  objects_within p s (o, next, is, vacant) = subst (Guarantee b v lane lane p) (sym vacant) (object_within o next p is)

  objects_away : Away (Unlinks r)
  objects_away (RefOf name) s (o, next, is, vacant) = (object_spares o (sum o next)).refs name s (is, vacant)

  module _ (never : AreNever v r.marks) where
    mark_within : (p : Path) (commit : List ℕ) → IsSum commit → p ≡ mark_path commit → Guarantee b v lane lane p Vacant
    mark_within p commit is_sum is =
        let at : place p ≡ Mark commit = ap place is ∙ place-mark commit is_sum in
        record {
          at = subst (λ x. may_at b lane lane x Vacant) (sym at) tt;
          fits = vacant_fits p;
          objects = λ kind csum there. (let n : Mark commit ≡ Object kind csum = sym at ∙ there in cc);
          marks = λ c there some. absurd (some refl);
          checkouts = λ name there. (let n : Mark commit ≡ Checkout name [] = sym at ∙ there in cc);
          comes = λ n m bytes e. absurd (let no : Vacant ≡ Leaf n m bytes = e in cc);
          folders = inr (inr (inr (inr (λ name below leaf. ⊎_elim
              (λ other. let n : Mark commit ≡ Other p = sym at ∙ other in cc)
              (λ ref. let n : Mark commit ≡ Ref ref.0 = sym at ∙ ref.1 in cc)
              (above_ref name p below)))));
        }

    which : (p : Path) → IsNextMark r p → (commit : List ℕ) × IsSum commit × (p ≡ mark_path commit)
    which p next = let n = never p (r.unmarked, next.0, next.1) in (n.0, n.1, n.2)

    marks_within : Within (sweep_writes part.Mark r) (Guarantee b v lane lane)
    marks_within p s (next, vacant) = let n = which p next in subst (Guarantee b v lane lane p) (sym vacant) (mark_within p n.0 n.1 n.2)

    marks_away : Away (sweep_writes part.Mark r)
    marks_away (RefOf name) s (next, vacant) = let n = which (ref_path name) next in (mark_spares n.0 n.1).refs name s (n.2, vacant)

    marks_none : TakesNone (sweep_writes part.Mark r) v
    marks_none kind csum is_sum (next, vacant) = let n = which (path_of (name_of kind csum)) next in absurd (mark_object n.0 (name_of kind csum) n.1 is_sum (sym n.2))

-- ---- what is owed

some_left : (r : Sweeping) (x : Part) → IsIn x r → IsSoFar r → (x ≡ part.Commit) ⊎ (x ≡ part.Object) → r.gone < length r.removed
some_left r x is so_far (inl e) = let i : IsIn part.Commit r = subst (λ y. IsIn y r) e is in omega (arith, i.0, so_far.commits)
some_left r x is so_far (inr e) = let i : IsIn part.Object r = subst (λ y. IsIn y r) e is in i.1

module _ (t : PruneCommand) (actor lane : ℕ) (r : Sweeping) (v : View) (b : Books) (begun : HasBegun t.known lane v b) (so_far : IsSoFar r) (Done : View → Type 0) where
  abbrev event : Event
  event = change_of t r

  none_final : (w : View) → Final event w
  none_final w = record { only = λ x at. absurd (let no : None ≡ Some x = at in cc); leads = λ x commit at. absurd (let no : None ≡ Some x = at in cc) }

  shows_it : Shows (listed_in b) (sweep_writes part.Begin r) v event
  shows_it = record {
    writes = λ x s wrote. absurd wrote;
    valid = tt;
    was = λ x at. absurd (let no : None ≡ Some x = at in cc);
    roots = λ s shown same. has_roots t.depth t.known r.removed lane v b begun.roots s shown same;
    list = tt;
  }

  left_to_go : (x : Part) → r.part ≡ x → (x ≡ part.Commit) ⊎ (x ≡ part.Object) → IsGoing t.known t.depth lane r v b → b.gone < length b.doomed
  left_to_go x is one going = subst (λ (l : List ObjName). b.gone < length l) (sym going.doomed) (subst (λ n. n < length r.removed) (sym going.gone) (some_left r x (subst (λ y. IsIn y r) is so_far.part) so_far one))

  pub sweep_duty : (x : Part) (owed : ℕ) → r.part ≡ x → SweepKnows x t.known t.depth lane r v b → StepObligation (sweep_kind x event owed) actor lane v b (sweep_writes x r) Done
  sweep_duty part.Begin owed is knows = ((λ p s wrote. absurd wrote), shows_it, begun.exclusive)
  sweep_duty part.Commit owed is going = (objects_within t.known t.depth lane r v b begun going, objects_away t.known t.depth lane r v b begun going, left_to_go part.Commit is (inl refl) going)
  sweep_duty part.Barrier owed is going = ((λ p s wrote. absurd wrote), (λ x s wrote. absurd wrote), (λ kind csum is_sum wrote. absurd wrote))
  sweep_duty part.Object owed is going = (objects_within t.known t.depth lane r v b begun going, objects_away t.known t.depth lane r v b begun going, left_to_go part.Object is (inr refl) going)
  sweep_duty part.Mark owed is going =
      let never = (late_behind r.part r v (subst IsLate (sym is) tt) going.behind).1 in
      (marks_within t.known t.depth lane r v b begun going never, marks_away t.known t.depth lane r v b begun going never, marks_none t.known t.depth lane r v b begun going never)
  sweep_duty part.End owed is going = ((λ p s wrote. absurd wrote), (λ w done. none_final w))
  sweep_duty part.Over owed is knows = absurd knows

quiet_duty : (actor lane : ℕ) (v : View) (b : Books) (Done : View → Type 0) → StepObligation Quiet actor lane v b (λ p s. ⊥) Done
quiet_duty actor lane v b Done = ((λ p s wrote. absurd wrote), (λ x s wrote. absurd wrote))

duty_in : (p : Phase) (t : PruneCommand) (actor lane : ℕ) (v : View) (b : Books) (Done : View → Type 0) → KnownIn p t lane v b → StepObligation (kind_in p t) actor lane v b (writes_in p) Done
duty_in phase.Waiting t actor lane v b Done known = ((λ p s wrote. absurd wrote), (λ x s wrote. absurd wrote))
duty_in phase.Unlearned t actor lane v b Done known = quiet_duty actor lane v b Done
duty_in (phase.Listing l) t actor lane v b Done known = quiet_duty actor lane v b Done
duty_in (phase.Marking m) t actor lane v b Done known = quiet_duty actor lane v b Done
duty_in (phase.Sweeping r) t actor lane v b Done known = sweep_duty t actor lane r v b known.0 known.1 Done r.part (calls_of r) refl known.2
duty_in (phase.Over a) t actor lane v b Done known = absurd known

pub duty_of : (t : PruneCommand) (actor lane : ℕ) (v : View) (b : Books) (Done : View → Type 0) → Facts lane t v b → StepObligation (prune_kind t) actor lane v b (prune_writes actor t v) Done
duty_of t actor lane v b Done f = duty_in t.phase t actor lane v b Done f.known

-- ---- what the step asks

module _ (k : Known) (depth lane : ℕ) (r : Sweeping) (v : View) (b : Books) (begun : HasBegun k lane v b) where
  pub next_there : IsGoing k depth lane r v b → (o : ObjName) → IsNext r o → IsThere v.now o
  next_there going o next = going.swept.rest o (at_left r.removed r.gone (omega (arith, next.0)) o r.gone (omega arith) next.0 next.1)

  object_ready : IsGoing k depth lane r v b → (o : ObjName) → IsNext r o → IsThere v.now o × NotDirectory (shows v.now (path_of o))
  object_ready going o next = (next_there going o next, begun.leaves o (object_sum k depth lane r v b going o next))

  sweep_ready : (x : Part) → r.part ≡ x → SweepKnows x k depth lane r v b → sweep_needs x r v
  sweep_ready part.Begin is knows = tt
  sweep_ready part.Commit is going = object_ready going
  sweep_ready part.Barrier is going = tt
  sweep_ready part.Object is going = object_ready going
  sweep_ready part.Mark is going = (begun.state, λ p next. let n = (late_behind r.part r v (subst IsLate (sym is) tt) going.behind).1 p (r.unmarked, next.0, next.1) in (n.0, n.2))
  sweep_ready part.End is going = tt
  sweep_ready part.Over is knows = knows

ready_in : (p : Phase) (t : PruneCommand) (lane : ℕ) (v : View) (b : Books) → KnownIn p t lane v b → needs_in p t v
ready_in phase.Waiting t lane v b known = tt
ready_in phase.Unlearned t lane v b known = tt
ready_in (phase.Listing l) t lane v b known = known.1
ready_in (phase.Marking m) t lane v b known = known.1
ready_in (phase.Sweeping r) t lane v b known = sweep_ready t.known t.depth lane r v b known.0 r.part refl known.2
ready_in (phase.Over a) t lane v b known = known

pub ready_of : (actor lane : ℕ) (t : PruneCommand) (v : View) (b : Books) → Facts lane t v b → prune_needs actor t v
ready_of actor lane t v b f = ready_in t.phase t lane v b f.known

-- ---- which step follows which

left_calls : (x : Part) (n : ℕ) → IsMiddle x → left_in x n ≡ calls_in x n
left_calls part.Commit n is = refl
left_calls part.Barrier n is = refl
left_calls part.Object n is = refl
left_calls part.Mark n is = refl
left_calls part.End n is = refl
left_calls part.Begin n is = absurd is
left_calls part.Over n is = absurd is

some_calls : (x : Part) (n : ℕ) → IsMiddle x → 0 < calls_in x n
some_calls part.Commit n is = omega arith
some_calls part.Barrier n is = omega arith
some_calls part.Object n is = omega arith
some_calls part.Mark n is = omega arith
some_calls part.End n is = omega arith
some_calls part.Begin n is = absurd is
some_calls part.Over n is = absurd is

owed_follows : (y : Part) (e d : Event) (most owed : ℕ) → IsMiddle y → d ≡ e → owed ≤ most → 0 < owed → rely.Follows e most (sweep_kind y d owed)
owed_follows part.Commit e d most owed is same few some = (same, few, some)
owed_follows part.Barrier e d most owed is same few some = (same, few, some)
owed_follows part.Object e d most owed is same few some = (same, few, some)
owed_follows part.Mark e d most owed is same few some = (same, few, some)
owed_follows part.End e d most owed is same few some = (same, omega (arith, few, some))
owed_follows part.Begin e d most owed is same few some = absurd is
owed_follows part.Over e d most owed is same few some = absurd is

shown_follows : (y : Part) (e d : Event) (owed : ℕ) → IsThen part.Begin y → d ≡ e → 0 < owed → rely.Follows e (rely.owed_by (sweep_kind y d owed)) (sweep_kind y d owed)
shown_follows part.Commit e d owed is same some = (same, omega arith, some)
shown_follows part.Barrier e d owed is same some = (same, omega arith, some)
shown_follows part.Object e d owed is same some = absurd is
shown_follows part.Mark e d owed is same some = absurd is
shown_follows part.End e d owed is same some = absurd is
shown_follows part.Begin e d owed is same some = absurd is
shown_follows part.Over e d owed is same some = absurd is

sweep_chain : (x y : Part) (e d : Event) (owed next : ℕ) → IsThen x y → d ≡ e → (IsMiddle x → next < owed) → 0 < next → Chain (sweep_kind x e owed) (sweep_kind y d next)
sweep_chain part.Begin y e d owed next is same fewer some = shown_follows y e d next is same some
sweep_chain part.Commit y e d owed next is same fewer some = let f = fewer tt in (owed - 1, omega (arith, f), owed_follows y e d (owed - 1) next (then_middle part.Commit y is) same (omega (arith, f)) some)
sweep_chain part.Barrier y e d owed next is same fewer some = let f = fewer tt in (owed - 1, omega (arith, f), owed_follows y e d (owed - 1) next (then_middle part.Barrier y is) same (omega (arith, f)) some)
sweep_chain part.Object y e d owed next is same fewer some = let f = fewer tt in (owed - 1, omega (arith, f), owed_follows y e d (owed - 1) next (then_middle part.Object y is) same (omega (arith, f)) some)
sweep_chain part.Mark y e d owed next is same fewer some = let f = fewer tt in (owed - 1, omega (arith, f), owed_follows y e d (owed - 1) next (then_middle part.Mark y is) same (omega (arith, f)) some)
sweep_chain part.End y e d owed next is same fewer some = absurd is
sweep_chain part.Over y e d owed next is same fewer some = absurd is

goes_chain : (t : PruneCommand) (r n : Sweeping) → GoesOn r n → Chain (kind_in (phase.Sweeping r) t) (kind_in (phase.Sweeping n) t)
goes_chain t r n on = sweep_chain r.part n.part (change_of t r) (change_of t n) (calls_of r) (calls_of n) follows (ap (λ (l : List ObjName). change_of t (record r { removed = l })) on.removed)
    (λ middle.
    let old = left_calls r.part (rest_of r) middle in
    let new = left_calls n.part (rest_of n) (then_middle r.part n.part follows) in
    omega (arith, old, new, on.nearer))
    (some_calls n.part (rest_of n) (then_middle r.part n.part follows))
  where
    follows : IsThen r.part n.part
    follows = follows_then r.part n on.follows

chain_in : (p n : Phase) (t : PruneCommand) → command.Follows t.depth p n → Chain (kind_in p t) (kind_in n t)
chain_in phase.Waiting phase.Unlearned t is = tt
chain_in (phase.Listing l) (phase.Listing m) t is = tt
chain_in (phase.Listing l) (phase.Marking m) t is = tt
chain_in (phase.Marking l) (phase.Marking m) t is = tt
chain_in (phase.Marking l) (phase.Sweeping r) t is = subst (λ x. Chain Quiet (sweep_kind x (change_of t r) (calls_of r))) (sym is.0.0) tt
chain_in (phase.Sweeping r) (phase.Sweeping n) t is = goes_chain t r n is.0
chain_in phase.Waiting phase.Waiting t is = absurd is
chain_in phase.Waiting (phase.Listing y) t is = absurd is
chain_in phase.Waiting (phase.Marking y) t is = absurd is
chain_in phase.Waiting (phase.Sweeping y) t is = absurd is
chain_in phase.Waiting (phase.Over y) t is = absurd is
chain_in phase.Unlearned phase.Waiting t is = absurd is
chain_in phase.Unlearned phase.Unlearned t is = absurd is
chain_in phase.Unlearned (phase.Listing y) t is = absurd is
chain_in phase.Unlearned (phase.Marking y) t is = absurd is
chain_in phase.Unlearned (phase.Sweeping y) t is = absurd is
chain_in phase.Unlearned (phase.Over y) t is = absurd is
chain_in (phase.Listing x) phase.Waiting t is = absurd is
chain_in (phase.Listing x) phase.Unlearned t is = absurd is
chain_in (phase.Listing x) (phase.Sweeping y) t is = absurd is
chain_in (phase.Listing x) (phase.Over y) t is = absurd is
chain_in (phase.Marking x) phase.Waiting t is = absurd is
chain_in (phase.Marking x) phase.Unlearned t is = absurd is
chain_in (phase.Marking x) (phase.Listing y) t is = absurd is
chain_in (phase.Marking x) (phase.Over y) t is = absurd is
chain_in (phase.Sweeping x) phase.Waiting t is = absurd is
chain_in (phase.Sweeping x) phase.Unlearned t is = absurd is
chain_in (phase.Sweeping x) (phase.Listing y) t is = absurd is
chain_in (phase.Sweeping x) (phase.Marking y) t is = absurd is
chain_in (phase.Sweeping x) (phase.Over y) t is = absurd is
chain_in (phase.Over x) phase.Waiting t is = absurd is
chain_in (phase.Over x) phase.Unlearned t is = absurd is
chain_in (phase.Over x) (phase.Listing y) t is = absurd is
chain_in (phase.Over x) (phase.Marking y) t is = absurd is
chain_in (phase.Over x) (phase.Sweeping y) t is = absurd is
chain_in (phase.Over x) (phase.Over y) t is = absurd is

pub chain_of : (t new : PruneCommand) → prune_stepped t turn.More new → Chain (prune_kind t) (prune_kind new)
chain_of t new step = subst (λ (x : PruneCommand). Chain (prune_kind t) (prune_kind x)) (sym step.0) (kind_as new.phase (chain_in t.phase new.phase t step.1))
  where
    kind_as : (p : Phase) → Chain (prune_kind t) (kind_in p t) → Chain (prune_kind t) (kind_in p (record t { phase = new.phase }))
    kind_as phase.Waiting c = c
    kind_as phase.Unlearned c = c
    kind_as (phase.Listing l) c = c
    kind_as (phase.Marking m) c = c
    kind_as (phase.Sweeping r) c = c
    kind_as (phase.Over a) c = c

-- ---- which may be the last

ends_in : (p : Phase) (t : PruneCommand) (a : _) → command.Ends p a → IsLastly (kind_in p t)
ends_in phase.Waiting t a is = absurd is
ends_in phase.Unlearned t a is = absurd is
ends_in (phase.Listing l) t a is = absurd is
ends_in (phase.Marking m) t a is = tt
ends_in (phase.Sweeping r) t (answer.Pruned kept removed) is = ⊎_elim (λ e. subst (λ x. IsLastly (sweep_kind x (change_of t r) (calls_of r))) (sym e) tt) (λ e. subst (λ x. IsLastly (sweep_kind x (change_of t r) (calls_of r))) (sym e) tt) is.0
ends_in (phase.Sweeping r) t (answer.Outside path) is = absurd is
ends_in (phase.Over a) t b is = tt

pub last_of : (t new : PruneCommand) → prune_stepped t (turn.Done tt) new → IsLastly (prune_kind t)
last_of t new step = ends_in t.phase t step.0 step.2

-- no checkout is claimed
sweep_unclaimed : (x : Part) (e : Event) (owed : ℕ) (name : Name) → sweep_kind x e owed ≡ Claim name → ⊥
sweep_unclaimed part.Begin e owed name is = let no : Publish e ≡ Claim name = is in cc
sweep_unclaimed part.Commit e owed name is = let no : Remove e owed ≡ Claim name = is in cc
sweep_unclaimed part.Barrier e owed name is = let no : Published e owed ≡ Claim name = is in cc
sweep_unclaimed part.Object e owed name is = let no : Remove e owed ≡ Claim name = is in cc
sweep_unclaimed part.Mark e owed name is = let no : Published e owed ≡ Claim name = is in cc
sweep_unclaimed part.End e owed name is = let no : MakeDurable e ≡ Claim name = is in cc
sweep_unclaimed part.Over e owed name is = let no : Quiet ≡ Claim name = is in cc

unclaimed_in : (p : Phase) (t : PruneCommand) (name : Name) → kind_in p t ≡ Claim name → ⊥
unclaimed_in phase.Waiting t name is = let no : Take prune_wants ≡ Claim name = is in cc
unclaimed_in phase.Unlearned t name is = let no : Quiet ≡ Claim name = is in cc
unclaimed_in (phase.Listing l) t name is = let no : Quiet ≡ Claim name = is in cc
unclaimed_in (phase.Marking m) t name is = let no : Quiet ≡ Claim name = is in cc
unclaimed_in (phase.Sweeping r) t name is = sweep_unclaimed r.part (change_of t r) (calls_of r) name is
unclaimed_in (phase.Over a) t name is = let no : Quiet ≡ Claim name = is in cc

pub unclaimed : (t : PruneCommand) (name : Name) → prune_kind t ≡ Claim name → ⊥
unclaimed t name is = unclaimed_in t.phase t name is
