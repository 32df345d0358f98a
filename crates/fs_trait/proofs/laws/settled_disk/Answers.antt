use Rattle.fs_trait.proofs.Images.{settled-alone}
use Rattle.fs_trait.proofs.laws.settled_disk.Goals as goal

pub returns-clause-alone : goal.returns-clause-alone
returns-clause-alone c = settled-alone
