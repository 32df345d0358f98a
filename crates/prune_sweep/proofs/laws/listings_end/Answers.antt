use Rattle.std.proofs.Common.{refl, arith}
use Rattle.store_check.proofs.Gathering.{all_names, none_below}
use Rattle.prune_sweep.proofs.Below.{below_lasts}
use Rattle.prune_sweep.proofs.laws.listings_end.Goals as goal

pub returns-clause-begins : goal.returns-clause-begins
returns-clause-begins c = λ d. none_below d _ refl

pub returns-clause-ends : goal.returns-clause-ends
returns-clause-ends c = λ d names below. all_names d 256 names (omega arith) below

pub returns-clause-lasts : goal.returns-clause-lasts
returns-clause-lasts c = λ d e first names same below. below_lasts d e first names same below
