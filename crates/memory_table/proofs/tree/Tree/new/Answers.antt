use Rattle.std.proofs.Common.{refl, ap}
use Rattle.std.specs.Map.{lookup}
use Rattle.std.specs.Ordering.{is_eq}
use Rattle.memory_table.specs.Tree.{look_in}
use Rattle.memory_table.proofs.Holding.{Holds-new}
use Rattle.memory_table.proofs.Keyed.{order}
use Rattle.memory_table.proofs.tree.Tree.new.Goals as goal

pub returns : goal.returns
returns g c = Holds-new _ c.args.root refl (λ t x. ap (λ es. look_in x (lookup (λ k. is_eq (order t k.items)) es)) c.new.ensures.empty)
