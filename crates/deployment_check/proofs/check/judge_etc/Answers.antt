use Rattle.std.proofs.Common.{◌∙◌, subst}
use Rattle.fs_trait.specs.Seen.{IsDirectory, shows}
use Rattle.deployment_check.proofs.check.judge_etc.Goals as goal

pub returns-then-branch-clause-told : goal.returns-then-branch-clause-told
returns-then-branch-clause-told g c = λ v limits tree told deployed.
    let folder = (c.in_ok-has_folder.ensures.told v told).0 c.if-branch.true in
    c.judge_copies.ensures.told v limits tree (c.in_ok-has_folder.ensures.quiet.view ∙ told)
    (record { deployed = deployed; etc = subst (λ p. IsDirectory (shows v.now p)) c.in_ok-etc.ensures folder })
