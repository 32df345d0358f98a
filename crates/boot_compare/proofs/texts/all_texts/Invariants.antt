use Rattle.repo_layout.specs.Fixed.{number}
use Rattle.boot_compare.proofs.Taking.{AreFirst}
use Rattle.boot_compare.proofs.texts.all_texts.Given as goal

abbrev pub invariant-loop-index : goal.invariant-loop-index
invariant-loop-index l = AreFirst (number l.loader) l.items l.index l.texts.items
