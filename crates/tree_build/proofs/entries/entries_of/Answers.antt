use Rattle.tree_build.proofs.Children.{entries_apart}
use Rattle.tree_build.proofs.entries.entries_of.Goals as goal

pub invariant_of-result : goal.invariant_of-result
invariant_of-result c = record { apart = ∣ rw (c.in_ok-files.ensures, c.in_ok-folders.ensures) (entries_apart _ c.requires.ascending) ∣₁ }
