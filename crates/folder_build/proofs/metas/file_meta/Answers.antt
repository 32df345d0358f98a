use Rattle.std.proofs.Common.{refl, lit<}
use Rattle.folder_build.proofs.metas.file_meta.Goals as goal

pub returns-clause-mode : goal.returns-clause-mode
returns-clause-mode c = (420, lit< tt, refl)
