use Rattle.std.proofs.Common.{◌≡◌}
use Rattle.std.specs.Option.{option_copied}
use Rattle.deploy_list.specs.Kernels.{as_list}
use Rattle.deploy_list.proofs.Versions.{first_kernels}
use Rattle.deploy_list.proofs.kernel.only_kernel.Given as goal

abbrev pub invariant-loop-node : goal.invariant-loop-node
invariant-loop-node l = first_kernels l.nodes l.node-index ≡ as_list (option_copied l.found)
