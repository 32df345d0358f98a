use Rattle.std.proofs.Common.{sym, subst}
use Rattle.ost_types.specs.Path.{IsPath, under}
use Rattle.ost_types.specs.Text.{IsName}
use Rattle.repo_layout.specs.OsName.{IsOsName}
use Rattle.deploy_clean.proofs.PathBounds.{deployed_path, os_name}
use Rattle.deploy_clean.proofs.paths.deployed_path.Goals as goal

pub child-requires : goal.child-requires
child-requires c =
    let os = subst IsOsName c.as_slice-os.ensures.value c.as_slice-os.ensures.name in
    let name = subst IsName c.as_slice-name.ensures.value c.as_slice-name.ensures.name in
    subst (λ f. IsPath (under f c.args.name.now)) (sym c.in_ok-folder.ensures) (deployed_path c.args.os.now c.args.name.now (os_name c.args.os.now os) name)
