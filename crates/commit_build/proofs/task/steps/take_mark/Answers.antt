use Rattle.std.proofs.Common.{sym, ◌∙◌}
use Rattle.commit_build.proofs.PhaseSteps.{leaf_taken}
use Rattle.commit_build.proofs.task.steps.take_mark.Goals as goal

pub returns-then-is_leaf-clause-effect : goal.returns-then-is_leaf-clause-effect
returns-then-is_leaf-clause-effect g c = λ v told.
    leaf_taken _ v _ (g.met.F.Fs.tree c.args.fs.now v told) (c.in_ok-stat.ensures.answer v told).1 (sym c.if-is_leaf.ensures) _ _ (c.unlink.ensures.effect v (c.in_ok-stat.ensures.quiet.view ∙ told))
