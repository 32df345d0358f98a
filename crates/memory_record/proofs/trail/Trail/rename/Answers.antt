use Rattle.std.proofs.Common.{subst}
use Rattle.fs_trait.specs.View.{named, moved}
use Rattle.fs_trait.specs.declared.types.Value.TheVariants.{Absent}
use Rattle.memory_table.proofs.Holding.{on_ok}
use Rattle.memory_record.specs.Trail.{Shows}
use Rattle.memory_record.proofs.trail.Trail.rename.Goals as goal

pub returns : goal.returns
unfolding moved
returns c = on_ok c.name-2.result _ _ (λ second v s. subst (λ x. Shows c.name-2.new.self (named c.args.from.now Absent (named c.args.to.now x v))) (c.in_ok-value.ensures v s) (second _ (c.in_ok-name.ensures v s))) c.name-2.ensures
