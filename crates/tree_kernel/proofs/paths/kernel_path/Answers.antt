use Rattle.tree_kernel.proofs.PathLemmas.{vmlinuz_name}
use Rattle.tree_kernel.proofs.paths.kernel_path.Goals as goal

pub version_path-requires : goal.version_path-requires
version_path-requires c = vmlinuz_name
