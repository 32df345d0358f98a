use Rattle.tree_kernel.proofs.OnceLemmas.{boots_once}
use Rattle.tree_kernel.proofs.laws.trees_boot_once.Goals as goal

pub returns : goal.returns
returns c = boots_once
