use Rattle.std.proofs.Common.{ap, sym}
use Rattle.std.specs.Fmt.{digits}
use Rattle.ost_types.specs.Path.{joined, text_of}
use Rattle.repo_layout.specs.BootPaths.{loader_folder_path}
use Rattle.repo_layout.specs.Fixed.{entries_path, number}
use Rattle.repo_layout.proofs.fixed.entries_text.Goals as goal

pub returns-in-Zero : goal.returns-in-Zero
unfolding joined loader_folder_path digits
returns-in-Zero c = ap (λ v. text_of (entries_path (number v))) (sym c.in-Zero.is)

pub returns-in-One : goal.returns-in-One
unfolding joined loader_folder_path digits
returns-in-One c = ap (λ v. text_of (entries_path (number v))) (sym c.in-One.is)
