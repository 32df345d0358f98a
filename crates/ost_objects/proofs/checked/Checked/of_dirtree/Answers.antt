use Rattle.ost_objects.proofs.Makes.{tree_formed}
use Rattle.ost_objects.proofs.checked.Checked.of_dirtree.Goals as goal

pub named-requires : goal.named-requires
named-requires c = tree_formed _ c.args.limits.now.content _ c.tree_rules.ensures.sums c.tree_rules.ensures.names c.tree_rules.ensures.sorted c.in_ok-bytes.ensures.form
