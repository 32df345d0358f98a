use Rattle.std.proofs.Common.{◌∙◌, ap}
use Rattle.fs_trait.specs.Image.{reads}
use Rattle.file_copy.specs.Pieces.{size_of}
use Rattle.file_copy.proofs.PieceLemmas.{told_size}
use Rattle.tree_kernel.proofs.pieces.find_size.Goals as goal

pub returns-clause-told : goal.returns-clause-told
returns-clause-told g c = λ v told. c.size_told.ensures ∙ told_size v.now _ _ (c.in_ok-node.ensures.answer v told).1 ∙ ap (λ p. size_of (reads v.now p)) c.in_ok-at.ensures
