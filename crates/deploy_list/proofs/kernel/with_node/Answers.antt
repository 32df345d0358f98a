use Rattle.std.specs.Option.{option_copied}
use Rattle.deploy_list.specs.Kernels.{as_list, kernel_at}
use Rattle.deploy_list.proofs.Versions.{kept_none}
use Rattle.deploy_list.proofs.kernel.with_node.Goals as goal

pub returns-in_default-clause-ok : goal.returns-in_default-clause-ok
returns-in_default-clause-ok c = kept_none (as_list (option_copied c.args.found)) (kernel_at c.args.path.now c.args.node.now) c.in_default.ensures
