use Rattle.ref_store.proofs.FallLemmas.{way_counted}
use Rattle.ref_store.proofs.task.left_way.Goals as goal

pub returns-clause-value : goal.returns-clause-value
returns-clause-value c = way_counted _ _ c.count_parts.ensures.value
