-- What the two folders that a swap makes have.
use Rattle.std.specs.Prelude.{◌≡◌, ◌-◌, ◌++◌, ◌∷◌, [], ℕ, List, length, Contains, Some}
use Rattle.std.specs.Fmt.{decimal}
use Rattle.ost_types.specs.Path.{Name, Path, IsPath}
use Rattle.ost_types.specs.Csum.{hex_of}
use Rattle.repo_layout.specs.BootPaths.{boot_folder_path, entry_path, loader_folder_path}
use Rattle.repo_layout.specs.Fixed.{entries_path}
use Rattle.boot_model.specs.declared.item.BootItem.{BootItem}
use Rattle.boot_model.specs.Items.{IsAt, link_number}
use Rattle.boot_model.specs.Entries.{deploy_target, entry_name, entry_text, item_link_path}
use Rattle.folder_build.specs.declared.node.Content.{Content}
use Rattle.folder_build.specs.declared.node.Content.TheVariants.{Folder, File, Link}
use Rattle.folder_build.specs.declared.node.NewNode.{NewNode}
use Rattle.folder_build.specs.Node.{content_at}
use Rattle.folder_build.specs.Build.{Building, IsMade, IsNumber, begun}

-- Each node's path is within the bounds of paths, and a node at one of these paths is a folder.
abbrev pub AreLaid : List Path → List NewNode → Type 0
AreLaid folders nodes = (k : ℕ) (e : NewNode) → IsNumber nodes k e → IsPath e.at × (Contains folders e.at → e.what ≡ Folder)

-- the folder of a version, and that of its entries
abbrev pub entry_folders : ℕ → List NewNode
entry_folders loader = record { at = loader_folder_path loader; what = Folder } ∷ record { at = entries_path loader; what = Folder } ∷ []

abbrev pub entry_node : ℕ → List BootItem → ℕ → BootItem → NewNode
entry_node loader items i item = record { at = entry_path loader (entry_name (length items - i)); what = File (entry_text loader items i item) }

-- The files in the folder of entries are those of the items.
pub record AreEntries (loader : ℕ) (items : List BootItem) (nodes : List NewNode) : Type 0 where
  pub each : (i : ℕ) (item : BootItem) → IsAt items i item → content_at nodes (entry_path loader (entry_name (length items - i))) ≡ Some (File (entry_text loader items i item))
  pub only : (file : Name) (c : Content) → content_at nodes (entry_path loader file) ≡ Some c
      → (i : ℕ) × (item : BootItem) × IsAt items i item × (file ≡ entry_name (length items - i)) × (c ≡ File (entry_text loader items i item))

-- a task at its beginning that makes them
pub record IsEntries (loader : ℕ) (items : List BootItem) (t : Building) : Type 0 where
  pub new : t ≡ begun (loader_folder_path loader) t.nodes
  pub made : IsMade t
  pub nodes : AreEntries loader items t.nodes
  pub laid : AreLaid (loader_folder_path loader ∷ entries_path loader ∷ []) t.nodes

-- the folders of a stateroot's links and of a kernel's
abbrev pub os_path : ℕ → ℕ → BootItem → Path
os_path version sub item = boot_folder_path version sub ++ item.id.os ∷ []

abbrev pub kernel_links_path : ℕ → ℕ → BootItem → Path
kernel_links_path version sub item = os_path version sub item ++ hex_of item.kernel.bootcsum ∷ []

abbrev pub link_path : ℕ → ℕ → BootItem → ℕ → Path
link_path version sub item number = kernel_links_path version sub item ++ decimal number ∷ []

-- the link of a member, and before it the folders that it is in
abbrev pub link_nodes : ℕ → ℕ → List BootItem → ℕ → BootItem → List NewNode
link_nodes version sub items i item =
    record { at = os_path version sub item; what = Folder }
    ∷ record { at = kernel_links_path version sub item; what = Folder }
    ∷ record { at = link_path version sub item (link_number items i item); what = Link (deploy_target item.id) }
    ∷ []

-- The links of the items are in the folder of links.
abbrev pub AreLinks : ℕ → ℕ → List BootItem → List NewNode → Type 0
AreLinks version sub items nodes =
    (i : ℕ) (item : BootItem) → IsAt items i item → content_at nodes (item_link_path version sub item (link_number items i item)) ≡ Some (Link (deploy_target item.id))

-- a task at its beginning that makes them
pub record IsLinks (version sub : ℕ) (items : List BootItem) (t : Building) : Type 0 where
  pub new : t ≡ begun (boot_folder_path version sub) t.nodes
  pub made : IsMade t
  pub nodes : AreLinks version sub items t.nodes
  pub laid : AreLaid (boot_folder_path version sub ∷ []) t.nodes
