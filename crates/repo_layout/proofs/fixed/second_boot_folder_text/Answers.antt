use Rattle.std.proofs.Common.{ap, sym}
use Rattle.std.specs.Fmt.{digits}
use Rattle.ost_types.specs.Path.{joined, text_of}
use Rattle.repo_layout.specs.BootPaths.{boot_folder_path}
use Rattle.repo_layout.specs.Fixed.{number}
use Rattle.repo_layout.proofs.fixed.second_boot_folder_text.Goals as goal

pub returns-in-Zero : goal.returns-in-Zero
unfolding joined boot_folder_path digits
returns-in-Zero c = ap (λ v. text_of (boot_folder_path 1 (number v))) (sym c.in-Zero.is)

pub returns-in-One : goal.returns-in-One
unfolding joined boot_folder_path digits
returns-in-One c = ap (λ v. text_of (boot_folder_path 1 (number v))) (sym c.in-One.is)
