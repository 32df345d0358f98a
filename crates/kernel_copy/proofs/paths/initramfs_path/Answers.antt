use Rattle.std.proofs.Common.{sym, subst}
use Rattle.ost_types.specs.Path.{IsPath, under}
use Rattle.kernel_copy.proofs.CopyNames.{copy-path}
use Rattle.kernel_copy.proofs.paths.initramfs_path.Goals as goal

pub child-requires : goal.child-requires
child-requires c =
    let folder = c.in_ok-kernel_path.ensures in
    subst (λ f. IsPath (under f c.in_ok-name.name)) (sym folder.value) (copy-path c.args.os.now c.args.files.now.bootcsum c.in_ok-name.name (subst IsPath folder.value folder.path) c.in_ok-name.ensures.name)
