use Rattle.std.proofs.Common.{◌≢◌, [], sym, subst}
use Rattle.repo_layout.specs.Fixed.{number}
use Rattle.repo_layout.specs.BootPaths.{boot_link_stage_path}
use Rattle.folder_build.specs.Link.{IsPlaced}
use Rattle.boot_swap.proofs.Showing.{boot_target-some, link_placed}
use Rattle.boot_swap.proofs.ready.version_link.Goals as goal

pub new-requires-clause-placed : goal.new-requires-clause-placed
new-requires-clause-placed c = subst (λ p. IsPlaced p c.in_ok-at.at) (sym c.in_ok-stage.ensures) (subst (IsPlaced boot_link_stage_path) (sym c.in_ok-at.ensures) (link_placed c.args.version))

pub new-requires-clause-target : goal.new-requires-clause-target
new-requires-clause-target c = subst (λ t. t ≢ []) (sym c.in_ok-target.ensures) (boot_target-some (number c.args.version) (number c.args.sub))
