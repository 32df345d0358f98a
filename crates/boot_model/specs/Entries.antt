-- The boot entries of a list, and what they and the links hold (OSTree manual, "Deployments"; Boot Loader Specification, "Type #1 Boot
-- Loader Specification Entries").
use Rattle.std.specs.Prelude.{◌-◌, ◌++◌, ◌∷◌, [], ℕ, Bool, true, false, List, length, codes}
use Rattle.std.specs.List.{flat_map}
use Rattle.std.specs.Fmt.{decimal}
use Rattle.ost_types.specs.Path.{Name, Path}
use Rattle.ost_types.specs.Csum.{hex_of}
use Rattle.repo_layout.specs.BootPaths.{boot_folder_path, kernel_folder}
use Rattle.boot_model.specs.declared.item.DepId.{DepId}
use Rattle.boot_model.specs.declared.item.BootItem.{BootItem}
use Rattle.boot_model.specs.Items.{link_number}

abbrev pub newline : List ℕ
newline = 10 ∷ []

-- `title <stateroot> (ostree:<index>)`
abbrev pub title_line : Name → ℕ → List ℕ
title_line os index = codes "title " ++ os ++ codes " (ostree:" ++ decimal index ++ codes ")" ++ newline

abbrev pub version_line : ℕ → List ℕ
version_line version = codes "version " ++ decimal version ++ newline

-- each word, and a space behind it
abbrev pub spaced : List (List ℕ) → List ℕ
spaced words = flat_map (λ word. word ++ 32 ∷ []) words

-- where the link of a member is, as its entry tells it: through the link of its version
abbrev pub named_version : ℕ → List ℕ
named_version version = codes "/ostree/boot." ++ decimal version ++ 47 ∷ []

abbrev pub named_link : ℕ → Name → List ℕ → ℕ → List ℕ
named_link version os bootcsum number = named_version version ++ os ++ 47 ∷ hex_of bootcsum ++ 47 ∷ decimal number

abbrev pub options_line : ℕ → BootItem → ℕ → List ℕ
options_line version item number = codes "options " ++ spaced item.kargs ++ codes "ostree=" ++ named_link version item.id.os item.kernel.bootcsum number ++ newline

-- paths of kernels are told from `/boot`
abbrev pub kernel_text : BootItem → List ℕ
kernel_text item = codes "/ostree/" ++ kernel_folder item.id.os item.kernel.bootcsum

abbrev pub linux_line : BootItem → List ℕ
linux_line item = codes "linux " ++ kernel_text item ++ codes "/vmlinuz-" ++ item.kernel.kver ++ newline

abbrev pub initrd_front : BootItem → List ℕ
initrd_front item = codes "initrd " ++ kernel_text item ++ codes "/initramfs-"

abbrev pub initrd_line : BootItem → List ℕ
initrd_line item = initrd_front item ++ item.kernel.kver ++ codes ".img" ++ newline

-- there is none without an initramfs
abbrev pub initrd_lines : Bool → BootItem → List ℕ
initrd_lines true item = initrd_line item
initrd_lines false item = []

-- The text of the entry of a member: `loader` is the version that the boot loader's link selects. The first member has the greatest
-- version.
abbrev pub entry_lines : ℕ → ℕ → ℕ → BootItem → ℕ → List ℕ
entry_lines loader index version item number =
    title_line item.id.os index ++ version_line version ++ options_line loader item number ++ linux_line item ++ initrd_lines item.kernel.initramfs item

unfoldable pub entry_text : ℕ → List BootItem → ℕ → BootItem → List ℕ
entry_text loader items i item = entry_lines loader i (length items - i) item (link_number items i item)

-- `ostree-<version>.conf`
unfoldable pub entry_name : ℕ → Name
entry_name version = codes "ostree-" ++ decimal version ++ codes ".conf"

-- what the links hold: the boot loader's names the folder of a version; that of a version its folder of links; and a link there the
-- deployment
unfoldable pub loader_target : ℕ → List ℕ
loader_target version = codes "loader." ++ decimal version

unfoldable pub boot_target : ℕ → ℕ → List ℕ
boot_target version sub = codes "boot." ++ decimal version ++ 46 ∷ decimal sub

unfoldable pub deploy_target : DepId → List ℕ
deploy_target id = codes "../../../deploy/" ++ id.os ++ codes "/deploy/" ++ hex_of id.commit ++ 46 ∷ decimal id.serial

-- where the link of a member stands
abbrev pub item_link_path : ℕ → ℕ → BootItem → ℕ → Path
item_link_path version sub item number = boot_folder_path version sub ++ (item.id.os ∷ hex_of item.kernel.bootcsum ∷ decimal number ∷ [])
