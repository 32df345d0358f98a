use Rattle.std.proofs.Common.{◌≢◌, take}
use Rattle.std.specs.List.{AllByRecursion}
use Rattle.read_command.proofs.entry.folder_of.Given as goal

abbrev pub invariant-loop-item : goal.invariant-loop-item
invariant-loop-item l = AllByRecursion (λ i. i.name ≢ l.name) (take l.item-index l.folders)
