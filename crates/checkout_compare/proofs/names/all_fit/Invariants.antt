use Rattle.std.proofs.Common.{take}
use Rattle.std.specs.List.{AllByRecursion}
use Rattle.ost_types.specs.Path.{IsPath, under}
use Rattle.checkout_compare.proofs.names.all_fit.Given as goal

-- the names so far fit
abbrev pub invariant-loop-name : goal.invariant-loop-name
invariant-loop-name l = AllByRecursion (λ x. IsPath (under l.folder x)) (take l.name-index l.names)
