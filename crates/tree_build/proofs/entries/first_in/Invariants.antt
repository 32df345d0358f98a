use Rattle.std.proofs.Common.{◌≡◌, ◌≤◌, true, length, drop}
use Rattle.std.specs.Prelude.{All}
use Rattle.ost_types.specs.Path.{is_in}
use Rattle.tree_build.specs.Building.{path_at}
use Rattle.tree_build.proofs.entries.first_in.Given as goal

abbrev pub invariant-loop-start : goal.invariant-loop-start
invariant-loop-start l = record { within : l.start ≤ length l.made; inside : All (λ d. is_in l.folder (path_at l.items d.at) ≡ true) (drop l.start l.made) }

abbrev pub decreases-loop-start : goal.decreases-loop-start
decreases-loop-start l = l.start
