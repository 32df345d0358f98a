use Rattle.std.proofs.Common.{sym, ◌∙◌}
use Rattle.fs_trait.specs.Image.{reads}
use Rattle.tree_kernel.proofs.FindLemmas.{sized}
use Rattle.tree_kernel.proofs.pieces.file_size.Goals as goal

pub returns-in-Some-clause-told : goal.returns-in-Some-clause-told
returns-in-Some-clause-told g c = λ v told. sized (reads v.now _) c.in-Some.size (sym c.in-Some.is ∙ c.in_ok-size.ensures.told v told)
