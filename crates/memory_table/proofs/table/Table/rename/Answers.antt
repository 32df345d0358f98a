use Rattle.std.proofs.Common.{subst}
use Rattle.fs_trait.specs.declared.types.Value.TheVariants.{Absent}
use Rattle.fs_trait.specs.View.{set_at}
use Rattle.memory_table.specs.Ties.{Ties}
use Rattle.memory_table.proofs.Holding.{on_ok}
use Rattle.memory_table.proofs.table.Table.rename.Goals as goal

pub returns : goal.returns
returns c = on_ok c.name-2.result _ _ (λ second d ties. subst (λ x. Ties c.name-2.new.self (set_at c.args.from.now Absent (set_at c.args.to.now x d))) (c.in_ok-value.ensures d ties) (second _ (c.in_ok-name.ensures d ties))) c.name-2.ensures
