use Rattle.std.proofs.Common.{◌≡◌, subst}
use Rattle.fs_trait.specs.Effect.{IsNode}
use Rattle.fs_trait.specs.Seen.{Vacant, shows}
use Rattle.repo_layout.specs.Fixed.{number}
use Rattle.boot_read.specs.Faults.IsFirstBadLink.{OfVersion}
use Rattle.boot_read.proofs.Looking.{no_cause, vacant_at, vacant_sub}
use Rattle.boot_read.proofs.versions.sub_version.Goals as goal

pub returns-in-None-clause-told : goal.returns-in-None-clause-told
returns-in-None-clause-told g c = λ v told selects.
    let vacant = vacant_at v.now (v.now.at c.in_ok-at.at) (subst (IsNode v.now (v.now.at c.in_ok-at.at)) c.in-None.is (c.in_ok-node.ensures.answer v told).1) in
    OfVersion (number c.args.loader) (record { selects = selects; none = vacant_sub v.now (number c.args.loader) (subst (λ p. shows v.now p ≡ Vacant) c.in_ok-at.ensures vacant) }) c.in_ok-at.ensures

pub returns-in-Some-clause-told : goal.returns-in-Some-clause-told
returns-in-Some-clause-told g c = λ v told selects.
    c.link_version.ensures.told v.now (subst (IsNode v.now (v.now.at c.in_ok-at.at)) c.in-Some.is (c.in_ok-node.ensures.answer v told).1) c.in_ok-at.ensures selects

pub returns-in-Some-clause-cause : goal.returns-in-Some-clause-cause
returns-in-Some-clause-cause g c = no_cause _ _ c.link_version.result c.in_ok-node.ensures.cause.later c.link_version.ensures.no_call
