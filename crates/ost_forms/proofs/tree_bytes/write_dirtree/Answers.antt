use Rattle.std.proofs.Common.{rules}
use Rattle.ost_forms.specs.DirTree.{tree_form}
use Rattle.ost_forms.proofs.Laws.{one_tree, own_from}
use Rattle.ost_forms.proofs.tree_bytes.write_dirtree.Goals as goal

pub returns-clause-form : goal.returns-clause-form
returns-clause-form c = search rules

pub returns-clause-own : goal.returns-clause-own
returns-clause-own c = own_from tree_form one_tree _ _ (returns-clause-form c)
