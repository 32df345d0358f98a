use Rattle.std.proofs.Common.{sym, ◌∙◌, ap, subst}
use Rattle.ost_types.specs.Path.{IsPath, under}
use Rattle.deployment_build.specs.Deployment.{deployments}
use Rattle.deployment_build.proofs.Apart.{origin_under}
use Rattle.deployment_build.proofs.PathBounds.{deployed-path, if_ok_as}
use Rattle.deployment_build.proofs.paths.origin_path.Goals as goal

pub child-requires : goal.child-requires
child-requires c =
    let folder = c.in_ok-deployments_path.ensures in
    subst (λ f. IsPath (under f c.in_ok-origin_name.field-0)) (sym folder.value) (deployed-path c.args.id.now.os c.in_ok-origin_name.field-0 (subst IsPath folder.value folder.path) c.in_ok-origin_name.ensures.name)

pub returns : goal.returns
returns c =
    let path = ap (λ f. under f c.in_ok-origin_name.field-0) c.in_ok-deployments_path.ensures.value ∙ ap (under (deployments c.args.id.now.os)) c.in_ok-origin_name.ensures.value ∙ sym (origin_under c.args.id.now) in
    if_ok_as c.child-3.result _ _ path c.child-3.ensures
