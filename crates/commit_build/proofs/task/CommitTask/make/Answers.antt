use Rattle.std.proofs.Common.{refl, sym, subst, ap, ◌∙◌}
use Rattle.commit_build.specs.Committing.{Committing}
use Rattle.commit_build.specs.Steps.{Needs}
use Rattle.commit_build.proofs.WorkSteps.{made_next, next_needs}
use Rattle.commit_build.proofs.task.CommitTask.make.Goals as goal

pub invariant_of-self-2 : goal.invariant_of-self-2
invariant_of-self-2 c =
    let phase = ap (λ (t : Committing). t.phase) c.self.view_is ∙ c.requires in
    let next = made_next _ c.self.invariant.1 phase c.self.inside.build c.next_phase.new.build refl c.self.invariant.0 refl c.in_ok-self-inside.field-0 c.in_ok-self-inside.ensures in
    (next.1, next.0)

pub returns-clause-after : goal.returns-clause-after
returns-clause-after c = λ v needs.
    let phase = ap (λ (t : Committing). t.phase) c.self.view_is ∙ c.requires in
    next_needs _ v (subst (λ t. Needs t v) (sym c.self.view_is) needs) phase c.self.inside.build c.next_phase.new.build refl c.self.invariant.0 refl c.in_ok-self-inside.field-0 c.in_ok-self-inside.ensures
