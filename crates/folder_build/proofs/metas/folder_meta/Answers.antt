use Rattle.std.proofs.Common.{refl, lit<}
use Rattle.folder_build.proofs.metas.folder_meta.Goals as goal

pub returns-clause-mode : goal.returns-clause-mode
returns-clause-mode c = (493, lit< tt, refl)
