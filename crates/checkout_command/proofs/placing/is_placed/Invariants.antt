use Rattle.std.proofs.Common.{take}
use Rattle.std.specs.Prelude.{All}
use Rattle.checkout_command.specs.Placing.{Fits}
use Rattle.checkout_command.proofs.placing.is_placed.Given as goal

-- each pair so far lies in a folder, and fits
abbrev pub invariant-loop-path : goal.invariant-loop-path
invariant-loop-path l = All (λ e. Fits l.into l.tree e.0) (take l.path-index l.path-items)
