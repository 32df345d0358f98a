use Rattle.std.proofs.Common.{refl}
use Rattle.prune_sweep.proofs.Going.{swept_begins, swept_lasts, swept_more, swept_whole, unlinks_named}
use Rattle.prune_sweep.proofs.laws.sweeps_are_exact.Goals as goal

pub returns-clause-begins : goal.returns-clause-begins
returns-clause-begins c = λ planned from depth pins r plan. swept_begins planned r.removed 0 refl plan.there

pub returns-clause-unlinks : goal.returns-clause-unlinks
returns-clause-unlinks c = λ v o sum. unlinks_named v o sum

pub returns-clause-goes_on : goal.returns-clause-goes_on
returns-clause-goes_on c = λ planned d e from depth pins r o plan next unlinks was. swept_more planned r.removed plan.once r.gone o next.0 next.1 _ refl d e unlinks was

pub returns-clause-lasts : goal.returns-clause-lasts
returns-clause-lasts c = λ planned d e removed gone same was. swept_lasts planned removed gone d e same was

pub returns-clause-ends : goal.returns-clause-ends
returns-clause-ends c = λ planned d from depth pins r plan sound swept. swept_whole planned d from depth pins r plan sound swept
