use Rattle.std.proofs.Common.{sym, ◌∙◌, ap, subst}
use Rattle.ost_types.specs.Path.{IsPath, under}
use Rattle.repo_layout.specs.Paths.{folder_path}
use Rattle.repo_layout.specs.declared.folder.Folder.TheVariants.{Deploy}
use Rattle.deployment_build.proofs.PathBounds.{deployments-path, os-name, stateroot-path}
use Rattle.deployment_build.proofs.paths.deployments_path.Goals as goal

pub known_name-requires : goal.known_name-requires
known_name-requires c = os-name _ c.as_slice.ensures.name

pub child-requires : goal.child-requires
child-requires c = subst (λ f. IsPath (under f c.in_ok-known_name.field-0)) (sym c.in_ok-stateroots.ensures) (stateroot-path c.in_ok-known_name.field-0 c.in_ok-known_name.ensures.name)

pub child-requires-2 : goal.child-requires-2
child-requires-2 c =
    let os = c.in_ok-known_name.field-0 in
    subst (λ f. IsPath (under f c.in_ok-known_name-2.field-0)) (sym (c.in_ok-stateroot.ensures ∙ ap (λ f. under f os) c.in_ok-stateroots.ensures))
    (subst (λ n. IsPath (under (under (folder_path Deploy) os) n)) (sym c.in_ok-known_name-2.ensures.value) (deployments-path os c.in_ok-known_name.ensures.name))
