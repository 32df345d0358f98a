use Rattle.std.proofs.Common.{refl, lit<}
use Rattle.disk_fixtures.proofs.attributes.folder_meta.Goals as goal

pub returns : goal.returns
returns c = (493, lit< tt, refl)
