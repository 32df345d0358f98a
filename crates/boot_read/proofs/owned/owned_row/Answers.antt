use Rattle.std.proofs.Common.{arith}
use Rattle.repo_layout.specs.Fixed.{number}
use Rattle.boot_read.proofs.Looking.{fault_cause}
use Rattle.boot_read.proofs.Owning.{lacks_led}
use Rattle.boot_read.proofs.owned.owned_row.Goals as goal

pub returns-in-None-clause-told : goal.returns-in-None-clause-told
returns-in-None-clause-told g c = λ v sub told are is.
    c.no_deployment.ensures.told v.now sub (lacks_led v.now (number c.args.loader) sub c.args.followed.now is c.in-None.is)

pub returns-in-None-clause-cause : goal.returns-in-None-clause-cause
returns-in-None-clause-cause g c = fault_cause _ _ c.no_deployment.result (omega arith) c.no_deployment.ensures.no_call

pub checked_row-requires : goal.checked_row-requires
checked_row-requires g c = c.in-Some.is
