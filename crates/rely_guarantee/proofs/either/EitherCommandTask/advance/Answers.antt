use Rattle.std.proofs.Common.{subst}
use Rattle.rely_guarantee.specs.Either.{either_needs}
use Rattle.rely_guarantee.proofs.either.EitherCommandTask.advance.Goals as goal

pub advance-requires : goal.advance-requires
advance-requires g c = λ v told. subst (λ t. either_needs g.A.CommandTask.needs g.B.CommandTask.needs c.args.actor t v) c.in-Left.is (c.requires v told)

pub returns-in-Left-clause-after : goal.returns-in-Left-clause-after
returns-in-Left-clause-after g c = λ v told. rw c.in-Left.is (c.advance.ensures.after v told)

pub advance-requires-in-Right : goal.advance-requires-in-Right
advance-requires-in-Right g c = λ v told. subst (λ t. either_needs g.A.CommandTask.needs g.B.CommandTask.needs c.args.actor t v) c.in-Right.is (c.requires v told)

pub returns-in-Right-clause-after : goal.returns-in-Right-clause-after
returns-in-Right-clause-after g c = λ v told. rw c.in-Right.is (c.advance-in-Right.ensures.after v told)
