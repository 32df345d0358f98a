use Rattle.std.proofs.Common.{ap, sym}
use Rattle.std.specs.Fmt.{digits}
use Rattle.repo_layout.specs.Fixed.{number}
use Rattle.boot_model.specs.Entries.{named_version}
use Rattle.boot_words.proofs.word.named_version.Goals as goal

pub returns-in-Zero : goal.returns-in-Zero
unfolding digits
returns-in-Zero c = ap (λ v. named_version (number v)) (sym c.in-Zero.is)

pub returns-in-One : goal.returns-in-One
unfolding digits
returns-in-One c = ap (λ v. named_version (number v)) (sym c.in-One.is)
