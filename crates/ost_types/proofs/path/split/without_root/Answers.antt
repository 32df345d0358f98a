use Rattle.ost_types.proofs.Splitting.{root-text, other-text}
use Rattle.ost_types.proofs.path.split.without_root.Goals as goal

pub returns-then-text-eq1-clause-same : goal.returns-then-text-eq1-clause-same
returns-then-text-eq1-clause-same c = λ p names. root-text p c.args.text.now names c.requires c.if-text-eq1.true

pub returns-else-text-eq1-clause-same : goal.returns-else-text-eq1-clause-same
returns-else-text-eq1-clause-same c = λ p names. other-text p c.args.text.now c.requires c.if-text-eq1.false
