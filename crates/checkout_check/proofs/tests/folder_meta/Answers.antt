use Rattle.std.proofs.Common.{refl, lit<}
use Rattle.checkout_check.proofs.tests.folder_meta.Goals as goal

pub returns : goal.returns
returns c = (493, lit< tt, refl)
