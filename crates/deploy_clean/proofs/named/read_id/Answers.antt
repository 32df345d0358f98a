use Rattle.std.proofs.Common.{subst}
use Rattle.repo_layout.specs.OsName.{IsOsName}
use Rattle.deploy_clean.proofs.NameTexts.{read_as, text_is}
use Rattle.deploy_clean.proofs.named.read_id.Goals as goal

pub returns : goal.returns
returns c =
    read_as c.args.os.now c.args.name.now c.as_slice-2.result.now c.read_deploy_target.result
    (text_is c.args.os.now c.args.name.now _ _ _ _ _ _ c.as_slice.ensures.value c.in_ok-target.ensures c.in_ok-append.ensures.ok c.in_ok-append-2.ensures.ok c.in_ok-append-3.ensures.ok c.as_slice-2.ensures)
    (subst IsOsName c.as_slice.ensures.value c.as_slice.ensures.name) c.read_deploy_target.ensures
