use Rattle.std.proofs.Common.{sym, ◌∙◌, subst}
use Rattle.ost_types.specs.Text.{IsName}
use Rattle.kernel_copy.proofs.CopyNames.{if_ok_as, initramfs-name, initramfs-text}
use Rattle.kernel_copy.proofs.names.initramfs_name.Goals as goal

pub known_name-requires : goal.known_name-requires
known_name-requires c =
    let text = initramfs-text c.args.kver.now _ _ _ _ c.as_slice.ensures.value c.in_ok-append-2.ensures.ok c.in_ok-append.ensures.ok c.in_ok-text.ensures in
    subst IsName (sym (c.as_slice-2.ensures ∙ text)) (initramfs-name c.args.kver.now c.requires)

pub returns-clause-value : goal.returns-clause-value
returns-clause-value c =
    let text = initramfs-text c.args.kver.now _ _ _ _ c.as_slice.ensures.value c.in_ok-append-2.ensures.ok c.in_ok-append.ensures.ok c.in_ok-text.ensures in
    if_ok_as c.known_name.result _ _ (c.as_slice-2.ensures ∙ text) c.known_name.ensures.value
