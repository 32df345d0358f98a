use Rattle.std.proofs.Common.{take}
use Rattle.std.specs.List.{AllByRecursion}
use Rattle.ost_types.specs.Path.{under}
use Rattle.checkout_compare.specs.Looking.{IsNew}
use Rattle.checkout_compare.proofs.names.first_new.Given as goal

-- none of the names so far is new
abbrev pub invariant-loop-name : goal.invariant-loop-name
invariant-loop-name l = AllByRecursion (λ x. ¬ (IsNew l.tree (under l.folder x))) (take l.name-index l.names)
