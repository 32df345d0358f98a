use Rattle.tree_build.proofs.Briefs.{makeable}
use Rattle.tree_build.proofs.brief.is_brief.Goals as goal

pub returns-clause-makeable : goal.returns-clause-makeable
returns-clause-makeable c = λ t. makeable c.args.limits.now c.args.items.now (c.all_fit.ensures.typed t) (c.all_fit.ensures.texts t) (c.all_fit.ensures.exact.0 t)
