use Rattle.std.proofs.Common.{ap, sym}
use Rattle.std.specs.Fmt.{digits}
use Rattle.repo_layout.specs.Fixed.{number}
use Rattle.boot_model.specs.Entries.{loader_target}
use Rattle.boot_model.proofs.targets.loader_target.Goals as goal

pub returns-in-Zero : goal.returns-in-Zero
unfolding loader_target digits
returns-in-Zero c = ap (λ v. loader_target (number v)) (sym c.in-Zero.is)

pub returns-in-One : goal.returns-in-One
unfolding loader_target digits
returns-in-One c = ap (λ v. loader_target (number v)) (sym c.in-One.is)
