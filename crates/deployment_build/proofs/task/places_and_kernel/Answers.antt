use Rattle.std.proofs.Common.{sym, ◌∙◌, subst}
use Rattle.kernel_copy.specs.Work.{IsPlaced}
use Rattle.kernel_copy.proofs.Apart.{actor_stage}
use Rattle.deployment_build.proofs.task.places_and_kernel.Goals as goal

pub new-requires-clause-placed : goal.new-requires-clause-placed
new-requires-clause-placed c =
    let s = c.requires.staging in
    subst (λ p. IsPlaced p c.in_ok-copy.field-0 c.args.files) (sym (c.stage.view_is ∙ s.1)) (actor_stage s.0 c.in_ok-copy.field-0 c.args.files)
