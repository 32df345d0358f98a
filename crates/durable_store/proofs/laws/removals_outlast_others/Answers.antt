use Rattle.std.proofs.Common.{[]}
use Rattle.durable_store.specs.Removals.{Except}
use Rattle.durable_store.proofs.Kept.{object_still, others_kept, others_never, others_settled}
use Rattle.durable_store.proofs.laws.removals_outlast_others.Goals as goal

pub returns-clause-kept : goal.returns-clause-kept
returns-clause-kept c doomed b b' actor other lane v w apart alone act kept = others_kept (Except doomed) b b' v w actor other lane apart alone act.writes act.books kept

pub returns-clause-settled : goal.returns-clause-settled
returns-clause-settled c doomed b b' actor other lane v w apart alone act is = others_settled (Except doomed) b b' v w actor other lane apart alone act.writes is

pub returns-clause-never : goal.returns-clause-never
returns-clause-never c b b' actor other lane v w commit apart alone act sum never = others_never (Except []) b b' v w actor other lane apart alone act.writes commit sum never

pub returns-clause-same : goal.returns-clause-same
returns-clause-same c b b' actor other lane v w o apart alone act sum = object_still (Except []) b b' v w actor other lane apart alone act.writes o sum
