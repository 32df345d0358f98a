use Rattle.std.proofs.Common.{◌≢◌, [], sym, subst}
use Rattle.repo_layout.specs.Fixed.{number}
use Rattle.repo_layout.specs.BootPaths.{loader_stage_path}
use Rattle.folder_build.specs.Link.{IsPlaced}
use Rattle.boot_swap.proofs.Showing.{loader_placed, loader_target-some}
use Rattle.boot_swap.proofs.ready.loader_link.Goals as goal

pub new-requires-clause-placed : goal.new-requires-clause-placed
new-requires-clause-placed c = subst (λ p. IsPlaced p c.in_ok-at.at) (sym c.in_ok-stage.ensures) (subst (IsPlaced loader_stage_path) (sym c.in_ok-at.ensures) loader_placed)

pub new-requires-clause-target : goal.new-requires-clause-target
new-requires-clause-target c = subst (λ t. t ≢ []) (sym c.in_ok-target.ensures) (loader_target-some (number c.args.version))
