use Rattle.std.proofs.Common.{◌∷◌, []}
use Rattle.repo_layout.specs.BootPaths.{boot_folder_path}
use Rattle.repo_layout.specs.Fixed.{number}
use Rattle.boot_plan.specs.Plans.{AreLaid}
use Rattle.boot_plan.proofs.LinkNodes.{SoFar}
use Rattle.boot_plan.proofs.links.all_nodes.Given as goal

abbrev pub invariant-loop-index : goal.invariant-loop-index
invariant-loop-index l = SoFar (number l.fn.version) (number l.fn.sub) l.fn.items l.index l.nodes.items × AreLaid (boot_folder_path (number l.fn.version) (number l.fn.sub) ∷ []) l.nodes.items
