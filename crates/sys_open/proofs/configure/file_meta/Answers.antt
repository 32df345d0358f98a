use Rattle.std.proofs.Common.{arith, refl}
use Rattle.sys_open.proofs.configure.file_meta.Goals as goal

pub returns-clause-mode : goal.returns-clause-mode
returns-clause-mode c = (420, omega arith, refl)
