use Rattle.std.proofs.Common.{refl, lit<}
use Rattle.checkout_check.proofs.tests.file_meta.Goals as goal

pub returns : goal.returns
returns c = (420, lit< tt, refl)
