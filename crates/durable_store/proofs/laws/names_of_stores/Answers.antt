use Rattle.std.proofs.Common.{⊎_elim, refl}
use Rattle.durable_store.proofs.Growing.{adds_still}
use Rattle.durable_store.proofs.Starts.{few_all}
use Rattle.durable_store.proofs.laws.names_of_stores.Goals as goal

pub returns-clause-begins : goal.returns-clause-begins
returns-clause-begins g c limits names d good all = few_all d names limits.objects all good.few

pub returns-clause-still : goal.returns-clause-still
returns-clause-still g c v names next listed grows = ⊎_elim (λ same. same) (λ adds. absurd (adds_still g.S.Writing.writes v v names next listed refl adds)) grows
