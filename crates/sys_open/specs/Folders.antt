-- The folders that are there from the beginning.
use Rattle.std.specs.Prelude.{◌≡◌, true, List, [], ◌∷◌}
use Rattle.ost_types.specs.Path.{Name, Path, under}
use Rattle.fs_trait.specs.declared.types.Value.TheVariants.{Absent}
use Rattle.fs_trait.specs.View.{Disk}
use Rattle.fs_trait.specs.Image.{is_folder}
use Rattle.repo_layout.specs.Paths.{folder_path}
use Rattle.repo_layout.specs.declared.folder.Folder.{Folder}
use Rattle.repo_layout.specs.declared.folder.Folder.TheVariants.{Ostree, Repo, Objects, Refs, Heads, State, Tmp, Deploy, Boot, Kernels, Checkouts}

-- ascending by their paths
abbrev pub all_folders : List Folder
all_folders = Boot ∷ Kernels ∷ Checkouts ∷ Ostree ∷ Deploy ∷ Repo ∷ Objects ∷ Refs ∷ Heads ∷ State ∷ Tmp ∷ []

-- the folder above is there
abbrev pub HasParent : Disk → Folder → Type 0
HasParent d f = (g : Path) × (x : Name) × (folder_path f ≡ under g x) × (is_folder (d.at g) ≡ true)

-- nothing stands there, in a folder that is there
abbrev pub IsFree : Disk → Path → Type 0
IsFree d at = (d.at at ≡ Absent) × ((g : Path) × (x : Name) × (at ≡ under g x) × (is_folder (d.at g) ≡ true))
