-- The steps of a prune.
use Rattle.std.proofs.Common.{◌≡◌, ◌⊎◌, ⊎_elim, inl, inr, ◌<◌, ◌≤◌, ◌+◌, ◌-◌, ◌^◌, ℕ, List, length, Option, Some, None, refl, sym, ◌∙◌, ap, subst, arith}
use Rattle.ost_types.specs.declared.object.ObjName.{ObjName}
use Rattle.fs_trait.specs.declared.task.StepResult.{StepResult}
use Rattle.fs_trait.specs.declared.task.StepResult.TheVariants as turn
use Rattle.fs_trait.specs.Image.{Told}
use Rattle.fs_trait.specs.View.{View}
use Rattle.prune_sweep.specs.declared.part.Part.{Part}
use Rattle.prune_sweep.specs.declared.part.Part.TheVariants as part
use Rattle.prune_sweep.specs.Listing.{Listed}
use Rattle.prune_sweep.specs.Sweeping.{IsFresh, IsSoFar, Sweeping, left_in, left_of, rest_of}
use Rattle.prune_command.specs.declared.answer.PruneAnswer.{PruneAnswer}
use Rattle.prune_command.specs.declared.answer.PruneAnswer.TheVariants as answer
use Rattle.prune_command.specs.declared.command.PruneCommand.{PruneCommand}
use Rattle.prune_command.specs.declared.phase.Phase.{Phase}
use Rattle.prune_command.specs.declared.phase.Phase.TheVariants as phase
use Rattle.prune_command.specs.Commands.{Ends, Follows, Goes, Tells, goes, prune_leaves, prune_left, prune_stepped}
use Rattle.prune_command.specs.Learned.{from_of}
use Rattle.prune_command.specs.ListSteps.{IsListStepped, ListTells}
use Rattle.prune_command.specs.Marks.{Marks}
use Rattle.prune_command.specs.MarkSteps.{IsMarkStepped, MarkTells}
use Rattle.prune_command.specs.Phases.{phase_left}
use Rattle.prune_command.specs.SweepSteps.{Did, IsSweepStepped}

-- it goes on in this phase, or ends
went : (t new : PruneCommand) (u : StepResult (Unit {0})) (v w : View) (n : Phase) → u ≡ turn.More → new ≡ record t { phase = n } → Follows t.depth t.phase n → Goes t t.phase n v w → prune_leaves t u new v w
went t new u v w n more is follows tells = subst (λ (x : StepResult (Unit {0})). prune_leaves t x new v w) (sym more) (subst (λ (x : PruneCommand). prune_leaves t turn.More x v w) (sym is) (refl, follows, tells))

ended : (t new : PruneCommand) (u : StepResult (Unit {0})) (v w : View) (a : PruneAnswer) → u ≡ turn.Done tt → new ≡ record t { phase = phase.Over a } → Ends t.phase a → Tells t t.phase a v w → prune_leaves t u new v w
ended t new u v w a done is ends tells = subst (λ (x : StepResult (Unit {0})). prune_leaves t x new v w) (sym done) (a, is, ends, tells)

went_stepped : (t new : PruneCommand) (u : StepResult (Unit {0})) (n : Phase) → u ≡ turn.More → new ≡ record t { phase = n } → Follows t.depth t.phase n → phase_left n < phase_left t.phase → prune_stepped t u new
went_stepped t new u n more is follows fewer = subst (λ (x : StepResult (Unit {0})). prune_stepped t x new) (sym more) (subst (λ (x : PruneCommand). prune_stepped t turn.More x) (sym is) (refl, follows, fewer))

ended_stepped : (t new : PruneCommand) (u : StepResult (Unit {0})) (a : PruneAnswer) → u ≡ turn.Done tt → new ≡ record t { phase = phase.Over a } → Ends t.phase a → prune_stepped t u new
ended_stepped t new u a done is ends = subst (λ (x : StepResult (Unit {0})). prune_stepped t x new) (sym done) (a, is, ends)

-- ---- while objects are listed

module _ (t new : PruneCommand) (u : StepResult (Unit {0})) (v : View) (l n : Listed) (is : t.phase ≡ phase.Listing l) where
  pub listed_after : (next : Option Phase) → ListTells v t.known n next → IsListStepped t.depth l n next → goes next (record t { phase = phase.Listing n }) u new → prune_leaves t u new v v
  listed_after None tells step go = went t new u v v (phase.Listing n) go.0 go.1 (subst (λ p. Follows t.depth p (phase.Listing n)) (sym is) tt) (subst (λ p. Goes t p (phase.Listing n) v v) (sym is) (refl, tells))
  listed_after (Some (phase.Marking m)) tells step go = went t new u v v (phase.Marking m) go.0 go.1 (subst (λ p. Follows t.depth p (phase.Marking m)) (sym is) step) (subst (λ p. Goes t p (phase.Marking m) v v) (sym is) (refl, tells))
  listed_after (Some phase.Waiting) tells step go = absurd tells
  listed_after (Some phase.Unlearned) tells step go = absurd tells
  listed_after (Some (phase.Listing x)) tells step go = absurd tells
  listed_after (Some (phase.Sweeping x)) tells step go = absurd tells
  listed_after (Some (phase.Over x)) tells step go = absurd tells

-- ---- while they are marked

fresh_left : (r : Sweeping) (m : Marks) → IsFresh r → IsSoFar r → left_of r < 2 ^ 80 + m.left
fresh_left r m fresh so_far =
    let at : left_of r ≡ rest_of r + 3 = ap (λ x. left_in x (rest_of r)) fresh.0 in
    omega (arith, at, so_far.few)

module _ (t new : PruneCommand) (u : StepResult (Unit {0})) (m n : Marks) (is : t.phase ≡ phase.Marking m) where
  pub marked_after : (v : View) (next : Option Phase) → MarkTells v t.limits.content (from_of t.known) t.known.held m.marking.depth n.marking next → IsMarkStepped m n next → goes next (record t { phase = phase.Marking n }) u new → prune_leaves t u new v v
  marked_after v None tells step go = went t new u v v (phase.Marking n) go.0 go.1 (subst (λ p. Follows t.depth p (phase.Marking n)) (sym is) step.0) (subst (λ p. Goes t p (phase.Marking n) v v) (sym is) (refl, tells))
  marked_after v (Some (phase.Sweeping r)) tells step go = went t new u v v (phase.Sweeping r) go.0 go.1 (subst (λ p. Follows t.depth p (phase.Sweeping r)) (sym is) step) (subst (λ p. Goes t p (phase.Sweeping r) v v) (sym is) (refl, tells))
  marked_after v (Some (phase.Over (answer.Outside path))) tells step go = ended t new u v v (answer.Outside path) go.0 go.1 (subst (λ p. Ends p (answer.Outside path)) (sym is) tt) (subst (λ p. Tells t p (answer.Outside path) v v) (sym is) (refl, tells))
  marked_after v (Some (phase.Over (answer.Pruned kept removed))) tells step go = absurd tells
  marked_after v (Some phase.Waiting) tells step go = absurd tells
  marked_after v (Some phase.Unlearned) tells step go = absurd tells
  marked_after v (Some (phase.Listing x)) tells step go = absurd tells
  marked_after v (Some (phase.Marking x)) tells step go = absurd tells

  pub marked_stepped : (next : Option Phase) → IsMarkStepped m n next → goes next (record t { phase = phase.Marking n }) u new → prune_stepped t u new
  marked_stepped None step go = went_stepped t new u (phase.Marking n) go.0 go.1 (subst (λ p. Follows t.depth p (phase.Marking n)) (sym is) step.0) (subst (λ p. phase_left (phase.Marking n) < phase_left p) (sym is) (omega (arith, step.1)))
  marked_stepped (Some (phase.Sweeping r)) step go = went_stepped t new u (phase.Sweeping r) go.0 go.1 (subst (λ p. Follows t.depth p (phase.Sweeping r)) (sym is) step) (subst (λ p. phase_left (phase.Sweeping r) < phase_left p) (sym is) (fresh_left r m step.0 step.1))
  marked_stepped (Some (phase.Over (answer.Outside path))) step go = ended_stepped t new u (answer.Outside path) go.0 go.1 (subst (λ p. Ends p (answer.Outside path)) (sym is) tt)
  marked_stepped (Some (phase.Over (answer.Pruned kept removed))) step go = absurd step
  marked_stepped (Some phase.Waiting) step go = absurd step
  marked_stepped (Some phase.Unlearned) step go = absurd step
  marked_stepped (Some (phase.Listing x)) step go = absurd step
  marked_stepped (Some (phase.Marking x)) step go = absurd step

-- ---- while they are removed

module _ (t new : PruneCommand) (u : StepResult (Unit {0})) (v : View) (view : Option View) (r n : Sweeping) (is : t.phase ≡ phase.Sweeping r) where
  pub swept_after : (next : Option Phase) → Told view (Did r.part r v) → IsSweepStepped r n next → goes next (record t { phase = phase.Sweeping n }) u new → Told view (prune_leaves t u new v)
  swept_after None (w, told, did) step go = (w, told, went t new u v w (phase.Sweeping n) go.0 go.1 (subst (λ p. Follows t.depth p (phase.Sweeping n)) (sym is) step) (subst (λ p. Goes t p (phase.Sweeping n) v w) (sym is) did))
  swept_after (Some (phase.Over (answer.Pruned kept removed))) (w, told, did) step go =
      (w, told, ended t new u v w (answer.Pruned kept removed) go.0 go.1 (subst (λ p. Ends p (answer.Pruned kept removed)) (sym is) step) (subst (λ p. Tells t p (answer.Pruned kept removed) v w) (sym is) did))
  swept_after (Some (phase.Over (answer.Outside path))) told step go = absurd step
  swept_after (Some phase.Waiting) told step go = absurd step
  swept_after (Some phase.Unlearned) told step go = absurd step
  swept_after (Some (phase.Listing x)) told step go = absurd step
  swept_after (Some (phase.Marking x)) told step go = absurd step
  swept_after (Some (phase.Sweeping x)) told step go = absurd step
