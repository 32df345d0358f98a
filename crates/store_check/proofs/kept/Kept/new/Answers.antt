use Rattle.std.proofs.Common.{refl}
use Rattle.store_check.proofs.Keeps.{kept_none}
use Rattle.store_check.proofs.kept.Kept.new.Goals as goal

pub returns : goal.returns
returns c = λ d. kept_none d _ c.new.ensures.items refl
