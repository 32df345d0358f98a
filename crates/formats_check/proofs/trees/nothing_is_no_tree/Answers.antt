use Rattle.std.proofs.Common.{sym, subst}
use Rattle.tree_build.specs.Items.{AreItems}
use Rattle.tree_build.specs.Makeable.{AreMakeable}
use Rattle.tree_build.proofs.Nothing.{no_items, none_to_make}
use Rattle.formats_check.proofs.trees.nothing_is_no_tree.Goals as goal

pub new-build-requires-clause-items : goal.new-build-requires-clause-items
new-build-requires-clause-items g c = subst AreItems (sym c.nothing.ensures) no_items

pub new-build-requires-clause-makeable : goal.new-build-requires-clause-makeable
new-build-requires-clause-makeable g c = subst (AreMakeable c.standard.result) (sym c.nothing.ensures) (none_to_make c.standard.result)
