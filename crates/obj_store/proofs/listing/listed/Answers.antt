use Rattle.obj_store.proofs.ListLemmas.{sorted_names}
use Rattle.obj_store.proofs.listing.listed.Goals as goal

pub returns-clause-ascending : goal.returns-clause-ascending
returns-clause-ascending c = sorted_names _ c.len.ensures.ordered

pub returns-in_err-push-clause-ascending : goal.returns-in_err-push-clause-ascending
returns-in_err-push-clause-ascending c = sorted_names _ c.len.ensures.ordered

pub returns-in_err-objects-clause-ascending : goal.returns-in_err-objects-clause-ascending
returns-in_err-objects-clause-ascending c = sorted_names _ c.len.ensures.ordered
