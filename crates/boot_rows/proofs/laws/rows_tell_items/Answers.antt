use Rattle.boot_rows.proofs.Telling.{tell_ids, tell_kargs, tell_sums}
use Rattle.boot_rows.proofs.laws.rows_tell_items.Goals as goal

pub returns-clause-ids : goal.returns-clause-ids
returns-clause-ids c = tell_ids

pub returns-clause-kargs : goal.returns-clause-kargs
returns-clause-kargs c = tell_kargs

pub returns-clause-sums : goal.returns-clause-sums
returns-clause-sums c = tell_sums
