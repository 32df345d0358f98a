use Rattle.deploy_list.proofs.HasKernels.{kernels_found}
use Rattle.deploy_list.proofs.laws.kernels_are_found.Goals as goal

pub returns : goal.returns
returns c = kernels_found
