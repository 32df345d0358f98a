use Rattle.std.proofs.Common.{sym, ◌∙◌, subst}
use Rattle.ost_types.specs.Text.{IsName}
use Rattle.ost_types.specs.Csum.{IsHexSum}
use Rattle.repo_layout.specs.OsName.{IsOsName}
use Rattle.kernel_copy.proofs.CopyNames.{folder-name, folder-text, if_ok_as}
use Rattle.kernel_copy.proofs.names.folder_name.Goals as goal

pub known_name-requires : goal.known_name-requires
known_name-requires c =
    let text = folder-text c.args.os.now c.args.bootcsum.now _ _ _ _ _ c.as_slice.ensures.value c.to_hex.ensures.value c.in_ok-append.ensures.ok c.in_ok-push.ensures.ok c.in_ok-text.ensures in
    subst IsName (sym (c.as_slice-2.ensures ∙ text))
    (folder-name c.args.os.now c.args.bootcsum.now (subst IsOsName c.as_slice.ensures.value c.as_slice.ensures.name) (subst IsHexSum c.to_hex.ensures.value c.to_hex.ensures.digits))

pub returns-clause-value : goal.returns-clause-value
returns-clause-value c =
    let text = folder-text c.args.os.now c.args.bootcsum.now _ _ _ _ _ c.as_slice.ensures.value c.to_hex.ensures.value c.in_ok-append.ensures.ok c.in_ok-push.ensures.ok c.in_ok-text.ensures in
    if_ok_as c.known_name.result _ _ (c.as_slice-2.ensures ∙ text) c.known_name.ensures.value
