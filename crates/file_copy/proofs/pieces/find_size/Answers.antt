use Rattle.std.proofs.Common.{◌∙◌}
use Rattle.file_copy.proofs.PieceLemmas.{told_size}
use Rattle.file_copy.proofs.pieces.find_size.Goals as goal

pub returns-clause-told : goal.returns-clause-told
returns-clause-told g c = λ v told. c.size_told.ensures ∙ told_size v.now _ _ (c.in_ok-node.ensures.answer v told).1
