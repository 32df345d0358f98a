use Rattle.std.proofs.Common.{◌∷◌, []}
use Rattle.repo_layout.specs.BootPaths.{loader_folder_path}
use Rattle.repo_layout.specs.Fixed.{entries_path, number}
use Rattle.boot_plan.specs.Plans.{AreLaid}
use Rattle.boot_plan.proofs.EntryNodes.{SoFar}
use Rattle.boot_plan.proofs.entries.entry_nodes.Given as goal

abbrev pub invariant-loop-index : goal.invariant-loop-index
invariant-loop-index l = SoFar (number l.fn.loader) l.fn.items l.index l.nodes.items × AreLaid (loader_folder_path (number l.fn.loader) ∷ entries_path (number l.fn.loader) ∷ []) l.nodes.items
