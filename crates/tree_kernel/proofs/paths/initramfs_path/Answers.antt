use Rattle.tree_kernel.proofs.PathLemmas.{initramfs_name}
use Rattle.tree_kernel.proofs.paths.initramfs_path.Goals as goal

pub version_path-requires : goal.version_path-requires
version_path-requires c = initramfs_name
