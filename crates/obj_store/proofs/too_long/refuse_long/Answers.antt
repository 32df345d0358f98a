use Rattle.std.proofs.Common.{refl}
use Rattle.obj_store.proofs.too_long.refuse_long.Goals as goal

pub returns-in-None-clause-fits : goal.returns-in-None-clause-fits
returns-in-None-clause-fits g c = c.in-None.ensures.none refl
