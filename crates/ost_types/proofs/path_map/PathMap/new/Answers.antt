use Rattle.std.proofs.lemmas.List.Elements.{All-nil}
use Rattle.ost_types.specs.PathMap.{IsNode}
use Rattle.ost_types.proofs.Ascending.{ascending_none}
use Rattle.ost_types.proofs.path_map.PathMap.new.Goals as goal

pub invariant_of-result : goal.invariant_of-result
invariant_of-result c = rw c.new.ensures.items (record { ascending = ascending_none; nodes = All-nil (λ e. IsNode e.1) })
