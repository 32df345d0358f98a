use Rattle.std.proofs.Common.{sym, ◌∙◌}
use Rattle.tree_kernel.proofs.FindLemmas.{file_there}
use Rattle.tree_kernel.proofs.find.file_at.Goals as goal

pub returns-in-Some-2-clause-told : goal.returns-in-Some-2-clause-told
returns-in-Some-2-clause-told g c = λ v told. file_there v.now c.args.tree.now c.args.at.now c.in-Some.file _ c.in-Some.ensures (sym c.in-Some-2.is ∙ c.in_ok-find_size.ensures.told v told)
