-- Where the things stand that have one path each, beside the folders that are there from the beginning.
use Rattle.std.specs.Prelude.{◌++◌, ◌∷◌, [], ℕ, codes}
use Rattle.ost_types.specs.Path.{Path}
use Rattle.repo_layout.specs.declared.fixed.Version.{Version}
use Rattle.repo_layout.specs.declared.fixed.Version.TheVariants.{Zero, One}
use Rattle.repo_layout.specs.declared.fixed.Fixed.{Fixed}
use Rattle.repo_layout.specs.declared.fixed.Fixed.TheVariants.{LoaderFolder, Entries, BootLink, BootFolder, Summary}
use Rattle.repo_layout.specs.BootPaths.{boot_folder_path, boot_link_path, loader_folder_path, summary_path}

abbrev pub number : Version → ℕ
number Zero = 0
number One = 1

-- the folder of a version's boot entries
abbrev pub entries_path : ℕ → Path
entries_path version = loader_folder_path version ++ codes "entries" ∷ []

abbrev pub fixed_path : Fixed → Path
fixed_path (LoaderFolder version) = loader_folder_path (number version)
fixed_path (Entries version) = entries_path (number version)
fixed_path (BootLink version) = boot_link_path (number version)
fixed_path (BootFolder version sub) = boot_folder_path (number version) (number sub)
fixed_path Summary = summary_path
