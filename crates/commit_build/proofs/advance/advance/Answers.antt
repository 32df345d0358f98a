use Rattle.std.proofs.Common.{sym, ◌∙◌}
use Rattle.commit_build.proofs.Advances.{few_step}
use Rattle.commit_build.proofs.advance.advance.Goals as goal

pub returns-then-branch-clause-after : goal.returns-then-branch-clause-after
returns-then-branch-clause-after g c = λ v told. (v, c.in_ok-is_full.ensures.quiet.view ∙ told, c.requires v told)

pub step-requires : goal.step-requires
step-requires g c = λ v told. c.requires v (sym c.in_ok-is_full.ensures.quiet.view ∙ told)

pub returns-in_err-step-clause-few : goal.returns-in_err-step-clause-few
returns-in_err-step-clause-few g c = λ v told. few_step c.args.full _ c.args.task.now v _ (c.in_ok-is_full.ensures.told v told) c.if-branch.false (c.step.ensures.writes v (c.in_ok-is_full.ensures.quiet.view ∙ told))

pub returns-in-More-clause-few : goal.returns-in-More-clause-few
returns-in-More-clause-few g c = λ v told. few_step c.args.full _ c.args.task.now v _ (c.in_ok-is_full.ensures.told v told) c.if-branch.false (c.step.ensures.writes v (c.in_ok-is_full.ensures.quiet.view ∙ told))

pub returns-in-Done-clause-few : goal.returns-in-Done-clause-few
returns-in-Done-clause-few g c = λ v told. few_step c.args.full _ c.args.task.now v _ (c.in_ok-is_full.ensures.told v told) c.if-branch.false (c.step.ensures.writes v (c.in_ok-is_full.ensures.quiet.view ∙ told))
