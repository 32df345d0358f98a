use Rattle.std.proofs.Common.{rules}
use Rattle.std.proofs.lemmas.List.Sorted.{IsNonDecreasingBy-from_sort_by_key}
use Rattle.boot_read.specs.Steps.{rank}
use Rattle.boot_read.proofs.sorted.by_version.Goals as goal

pub returns-clause-falling : goal.returns-clause-falling
returns-clause-falling c = IsNonDecreasingBy-from_sort_by_key rank _ c.in_ok-sort_by_key.ensures.sorted (λ a r q k. search rules)
