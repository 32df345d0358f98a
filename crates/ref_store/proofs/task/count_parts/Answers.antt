use Rattle.ref_store.proofs.FallLemmas.{parts_counted, parts_few}
use Rattle.ref_store.proofs.task.count_parts.Goals as goal

pub returns-clause-value : goal.returns-clause-value
returns-clause-value c = parts_counted _ _ c.as_slice.ensures.value _ c.count_slashes.ensures

pub returns-clause-few : goal.returns-clause-few
returns-clause-few c = parts_few _ c.as_slice.ensures.name _ c.count_slashes.ensures
