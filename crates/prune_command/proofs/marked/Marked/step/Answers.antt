use Rattle.std.proofs.Common.{Ok, sym, ◌∙◌, ap, subst}
use Rattle.fs_trait.specs.declared.task.StepResult.{StepResult}
use Rattle.store_check.specs.Listing.{AreAll}
use Rattle.prune_mark.specs.Marking.{IsStepped, Knows, State, StepTells}
use Rattle.prune_sweep.specs.Planned.{IsPlanned}
use Rattle.prune_command.proofs.marked.Marked.step.Goals as goal

pub returns-in_ok-sweep-in-Ok-Done-clause-told : goal.returns-in_ok-sweep-in-Ok-Done-clause-told
returns-in_ok-sweep-in-Ok-Done-clause-told g c = λ v from told knows.
    let s = c.in-Ok-Done.ensures in
    let old = c.self.inside.marking in
    let new = c.step.new.self in
    let is = ap (λ a. a.marking) c.self.view_is in
    let known = subst (Knows v.now from) (sym is) knows in
    let same = subst (λ (u : StepResult (Unit {0})). IsStepped old (Ok u) new) c.in-Ok-Done.field-0-is s.stepped in
    let marks = subst (λ (u : StepResult (Unit {0})). StepTells v.now c.args.limits.now.content from old (Ok u) new) c.in-Ok-Done.field-0-is (s.told v from told known) in
    subst (λ (m : State). IsPlanned v.now from m.depth c.args.held.now c.in_ok-sweep-in-Ok-Done.sweep) (same ∙ is)
    (c.in_ok-sweep-in-Ok-Done.ensures.told v from (s.quiet.view ∙ told) (subst (λ (m : State). AreAll v.now m.names) (sym same) known.names_are) marks)
