use Rattle.std.proofs.Common.{◌≡◌, subst}
use Rattle.fs_trait.specs.Effect.{IsNode}
use Rattle.fs_trait.specs.Seen.{Vacant, shows}
use Rattle.boot_read.proofs.Looking.{no_cause, vacant_at}
use Rattle.boot_read.proofs.versions.selected.Goals as goal

pub returns-in-None-clause-told : goal.returns-in-None-clause-told
returns-in-None-clause-told g c = λ v told.
    subst (λ p. shows v.now p ≡ Vacant) c.in_ok-at.ensures
    (vacant_at v.now (v.now.at c.in_ok-at.at) (subst (IsNode v.now (v.now.at c.in_ok-at.at)) c.in-None.is (c.in_ok-node.ensures.answer v told).1))

pub returns-in-Some-clause-told : goal.returns-in-Some-clause-told
returns-in-Some-clause-told g c = λ v told.
    c.loader_version.ensures.told v.now (subst (IsNode v.now (v.now.at c.in_ok-at.at)) c.in-Some.is (c.in_ok-node.ensures.answer v told).1) c.in_ok-at.ensures

pub returns-in-Some-clause-cause : goal.returns-in-Some-clause-cause
returns-in-Some-clause-cause g c = no_cause _ _ c.loader_version.result c.in_ok-node.ensures.cause.later c.loader_version.ensures.no_call
