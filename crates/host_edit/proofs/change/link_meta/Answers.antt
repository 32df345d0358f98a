use Rattle.std.proofs.Common.{refl, arith}
use Rattle.host_edit.proofs.change.link_meta.Goals as goal

pub returns-clause-mode : goal.returns-clause-mode
returns-clause-mode c = (511, omega arith, refl)
