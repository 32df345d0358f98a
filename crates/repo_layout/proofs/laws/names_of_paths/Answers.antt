use Rattle.std.proofs.Common.{arith}
use Rattle.repo_layout.proofs.Places.{ref_path-injective, object_path-injective, mark_path-injective, stage_path-injective, deploy_path-injective, origin_path-injective, kernel_path-injective}
use Rattle.repo_layout.proofs.laws.names_of_paths.Goals as goal

pub returns-clause-stages : goal.returns-clause-stages
returns-clause-stages c = λ a b less also. stage_path-injective a b (omega (arith, less)) (omega (arith, also))

pub returns-clause-refs : goal.returns-clause-refs
returns-clause-refs c = ref_path-injective

pub returns-clause-objects : goal.returns-clause-objects
returns-clause-objects c = object_path-injective

pub returns-clause-marks : goal.returns-clause-marks
returns-clause-marks c = mark_path-injective

pub returns-clause-deployments : goal.returns-clause-deployments
returns-clause-deployments c = λ o p a b m n is also less small. deploy_path-injective o p a b m n is also (omega (arith, less)) (omega (arith, small))

pub returns-clause-origins : goal.returns-clause-origins
returns-clause-origins c = λ o p a b m n is also less small. origin_path-injective o p a b m n is also (omega (arith, less)) (omega (arith, small))

pub returns-clause-kernels : goal.returns-clause-kernels
returns-clause-kernels c = kernel_path-injective
