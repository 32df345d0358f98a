use Rattle.std.proofs.Common.{subst}
use Rattle.fs_trait.specs.Effect.{IsNode}
use Rattle.boot_read.proofs.Looking.{no_cause, vacant_at}
use Rattle.boot_read.proofs.links.deployment_at.Goals as goal

pub returns-in-None-clause-told : goal.returns-in-None-clause-told
returns-in-None-clause-told g c = λ v told. vacant_at v.now (v.now.at c.args.at) (subst (IsNode v.now (v.now.at c.args.at)) c.in-None.is (c.in_ok-node.ensures.answer v told).1)

pub returns-in-Some-clause-told : goal.returns-in-Some-clause-told
returns-in-Some-clause-told g c = λ v told. c.led_by.ensures.told v.now (subst (IsNode v.now (v.now.at c.args.at)) c.in-Some.is (c.in_ok-node.ensures.answer v told).1)

pub returns-in-Some-clause-cause : goal.returns-in-Some-clause-cause
returns-in-Some-clause-cause g c = no_cause _ _ c.led_by.result c.in_ok-node.ensures.cause.later c.led_by.ensures.no_call
