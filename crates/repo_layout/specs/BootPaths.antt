-- Where a sysroot's boot links, boot entries, kernels and origin files stand (OSTree manual, "Deployments"; Boot Loader
-- Specification), and where trees are checked out.
use Rattle.std.specs.Prelude.{◌++◌, ◌∷◌, [], ℕ, List, codes}
use Rattle.std.specs.Fmt.{decimal}
use Rattle.ost_types.specs.Path.{Name, Path}
use Rattle.ost_types.specs.Csum.{hex_of}
use Rattle.repo_layout.specs.Paths.{in_repo}

-- the link that the boot loader follows, which selects a version, and where it is staged
abbrev pub loader_path : Path
loader_path = codes "boot" ∷ codes "loader" ∷ []

abbrev pub loader_stage_path : Path
loader_stage_path = codes "boot" ∷ codes "loader.tmp" ∷ []

-- the folder of a version, 0 or 1
unfoldable pub loader_folder_path : ℕ → Path
loader_folder_path version = codes "boot" ∷ (codes "loader." ++ decimal version) ∷ []

-- a boot entry in it
abbrev pub entry_path : ℕ → Name → Path
entry_path version file = loader_folder_path version ++ codes "entries" ∷ file ∷ []

-- the folder of a kernel's copy
abbrev pub kernel_folder : Name → List ℕ → Name
kernel_folder os bootcsum = os ++ (45 ∷ hex_of bootcsum)

unfoldable pub kernel_path : Name → List ℕ → Path
kernel_path os bootcsum = codes "boot" ∷ codes "ostree" ∷ kernel_folder os bootcsum ∷ []

-- the link from a version to its folder of boot links, and where such a link is staged
unfoldable pub boot_link_path : ℕ → Path
boot_link_path version = codes "ostree" ∷ (codes "boot." ++ decimal version) ∷ []

abbrev pub boot_link_stage_path : Path
boot_link_stage_path = codes "ostree" ∷ codes "boot.tmp" ∷ []

-- the folder of boot links of a version and a sub-version, each 0 or 1
unfoldable pub boot_folder_path : ℕ → ℕ → Path
boot_folder_path version sub = codes "ostree" ∷ (codes "boot." ++ (decimal version ++ (46 ∷ decimal sub))) ∷ []

-- the file that tells what ref a deployment came from
unfoldable pub origin_path : Name → List ℕ → ℕ → Path
origin_path os commit serial = codes "ostree" ∷ codes "deploy" ∷ os ∷ codes "deploy" ∷ (hex_of commit ++ ((46 ∷ decimal serial) ++ codes ".origin")) ∷ []

-- the record of a deployment that is to come with the next shutdown
abbrev pub staged_path : Path
staged_path = codes "ostree" ∷ codes "staged" ∷ []

-- the summary of the repository's refs
abbrev pub summary_path : Path
summary_path = in_repo (codes "summary" ∷ [])

abbrev pub checkout_path : Name → Path
checkout_path name = codes "checkout" ∷ name ∷ []
