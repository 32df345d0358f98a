use Rattle.std.proofs.Common.{arith}
use Rattle.repo_layout.proofs.Places.{place-staged, place-boot_link, place-boot_link_stage, place-boot_folder, place-loader, place-loader_stage, place-loader_folder, place-kernel, place-checkout}
use Rattle.repo_layout.proofs.laws.places_of_boots.Goals as goal

pub returns-clause-staged : goal.returns-clause-staged
returns-clause-staged c = place-staged

pub returns-clause-links : goal.returns-clause-links
returns-clause-links c = λ version less. place-boot_link version (omega (arith, less))

pub returns-clause-link_stage : goal.returns-clause-link_stage
returns-clause-link_stage c = place-boot_link_stage

pub returns-clause-link_folders : goal.returns-clause-link_folders
returns-clause-link_folders c = λ version sub rest less small. place-boot_folder version sub rest (omega (arith, less)) (omega (arith, small))

pub returns-clause-loader : goal.returns-clause-loader
returns-clause-loader c = place-loader

pub returns-clause-loader_stage : goal.returns-clause-loader_stage
returns-clause-loader_stage c = place-loader_stage

pub returns-clause-loader_folders : goal.returns-clause-loader_folders
returns-clause-loader_folders c = λ version rest less. place-loader_folder version rest (omega (arith, less))

pub returns-clause-kernels : goal.returns-clause-kernels
returns-clause-kernels c = place-kernel

pub returns-clause-checkouts : goal.returns-clause-checkouts
returns-clause-checkouts c = place-checkout
