-- The places of the layout that have many names, and what each asks of what stands there.
use Rattle.std.specs.Prelude.{◌≡◌, ◌≢◌, ◌≤◌, ◌⊎◌, ◌==◌, ◌||◌, ◌++◌, ◌∷◌, ℕ, Bool, IsTrue, List, [], length, All, codes}
use Rattle.ost_types.specs.Path.{Name, Path, under}
use Rattle.ost_types.specs.Csum.{IsHexDigit, hex_of}
use Rattle.repo_layout.specs.declared.folder.Folder.{Folder}
use Rattle.repo_layout.specs.declared.folder.Folder.TheVariants as layout
use Rattle.repo_layout.specs.BootPaths.{kernel_folder, kernel_path}
use Rattle.repo_layout.specs.OsName.{IsOsName}
use Rattle.repo_layout.specs.Paths.{folder_path, mark_path}
use Rattle.repo_layout.specs.RefFile.{IsSum}
use Rattle.repo_layout.specs.RefName.{is_part_byte}
use Rattle.layout_rules.specs.declared.rule.Rule.{Rule}
use Rattle.layout_rules.specs.declared.rule.Rule.TheVariants.{FileOrNothing, FolderOrNothing, NoFolder}
use Rattle.layout_rules.specs.declared.many.Many.{Many}
use Rattle.layout_rules.specs.declared.many.Many.TheVariants.{Kernels, Stateroots, Objects, Marks}

-- the name of a folder of objects
pub record IsTwoDigits (name : Name) : Type 0 where
  pub two : length name ≡ 2
  pub digits : All IsHexDigit name

-- the name of a commit's mark
abbrev pub IsMarkName : Name → Type 0
IsMarkName name = (commit : List ℕ) × IsSum commit × (name ≡ hex_of commit ++ codes ".commitpartial")

-- the digits of a sum
abbrev pub IsSumText : List ℕ → Type 0
IsSumText text = (sum : List ℕ) × IsSum sum × (text ≡ hex_of sum)

-- `-` and the digits of a sum
abbrev pub IsDashedSum : List ℕ → Type 0
IsDashedSum text = (sum : List ℕ) × IsSum sum × (text ≡ 45 ∷ hex_of sum)

-- the name of the folder of a kernel's copies
abbrev pub IsKernelName : Name → Type 0
IsKernelName name = (os : Name) × IsOsName os × ((bootcsum : List ℕ) × IsSum bootcsum × (name ≡ kernel_folder os bootcsum))

-- a byte of a kernel's version: `A-Z a-z 0-9 - _ . + ~`
abbrev pub is_version_byte : ℕ → Bool
is_version_byte b = is_part_byte b || (b == 43) || (b == 126)

-- 1 to 241 such bytes
pub record IsVersion (text : List ℕ) : Type 0 where
  pub bytes : All (λ b. IsTrue (is_version_byte b)) text
  pub not_empty : text ≢ []
  pub short : length text ≤ 241

-- a name that holds a kernel's version between these two texts
abbrev pub IsVersioned : List ℕ → List ℕ → Name → Type 0
IsVersioned front end name = (version : List ℕ) × IsVersion version × (name ≡ front ++ (version ++ end))

-- the name of a kernel's copy, and of its initramfs's
abbrev pub IsCopyName : Name → Type 0
IsCopyName name = IsVersioned (codes "vmlinuz-") [] name ⊎ IsVersioned (codes "initramfs-") (codes ".img") name

-- the folder of the layout that they are in
abbrev pub folder_of : Many → Folder
folder_of Kernels = layout.Kernels
folder_of Stateroots = layout.Deploy
folder_of Objects = layout.Objects
folder_of Marks = layout.State

-- the names in that folder under which they stand
abbrev pub IsNameOf : Many → Name → Type 0
IsNameOf Kernels name = IsKernelName name
IsNameOf Stateroots name = IsOsName name
IsNameOf Objects name = IsTwoDigits name
IsNameOf Marks name = IsMarkName name

abbrev pub stateroot_path : Name → Path
stateroot_path os = under (folder_path layout.Deploy) os

-- a folder for a kernel's copies, and in it copies that are no folders
abbrev pub IsOfKernel : Path → Rule → Path → Type 0
IsOfKernel folder rule p = ((rule ≡ FolderOrNothing) × (p ≡ folder)) ⊎ ((rule ≡ NoFolder) × ((name : Name) × IsCopyName name × (p ≡ under folder name)))

-- the paths that a rule is for: folders of objects are folders; where a mark stands there is nothing but a regular file;
-- stateroots are folders, and so is where their deployments stand; kernels' copies stand in folders, and are none
abbrev pub IsIn : Many → Rule → Path → Type 0
IsIn Kernels rule p = (os : Name) × IsOsName os × ((bootcsum : List ℕ) × IsSum bootcsum × IsOfKernel (kernel_path os bootcsum) rule p)
IsIn Stateroots rule p = (rule ≡ FolderOrNothing) × ((os : Name) × IsOsName os × ((p ≡ stateroot_path os) ⊎ (p ≡ under (stateroot_path os) (codes "deploy"))))
IsIn Objects rule p = (rule ≡ FolderOrNothing) × ((digits : Name) × IsTwoDigits digits × (p ≡ under (folder_path layout.Objects) digits))
IsIn Marks rule p = (rule ≡ FileOrNothing) × ((commit : List ℕ) × IsSum commit × (p ≡ mark_path commit))
