use Rattle.durable_deployments.proofs.Unwritten.{act_spares_all, act_spares_kept, on_the_way}
use Rattle.durable_deployments.proofs.laws.acts_spare_deployments.Goals as goal

pub returns-clause-one : goal.returns-clause-one
returns-clause-one c limits v w b b' actor lane id bootcsum does guarded stands own = act_spares_kept limits v w b b' actor lane id bootcsum does guarded stands own

pub returns-clause-all : goal.returns-clause-all
returns-clause-all c limits rows v w b b' actor lane does listed own stand = act_spares_all limits rows v w b b' actor lane does listed own stand

pub returns-clause-boots : goal.returns-clause-boots
returns-clause-boots c id bootcsum p way = on_the_way id bootcsum p way
