-- What a crash leaves of a list that boots.
use Rattle.std.specs.Prelude.{◌≡◌, ◌⊎◌, ◌<◌, ◌++◌, ℕ, List, Contains, map, All}
use Rattle.ost_types.specs.Path.{Name, Path}
use Rattle.ost_types.specs.Text.{IsText}
use Rattle.fs_trait.specs.View.{Disk, View}
use Rattle.fs_trait.specs.Image.{EachImage, Image}
use Rattle.fs_trait.specs.Seen.{shows}
use Rattle.repo_layout.specs.Paths.{deploy_path}
use Rattle.repo_layout.specs.BootPaths.{boot_folder_path, boot_link_path, entry_path, loader_path}
use Rattle.boot_model.specs.declared.item.DepId.{DepId}
use Rattle.boot_model.specs.declared.item.BootItem.{BootItem}
use Rattle.boot_model.specs.Items.{AreItems}
use Rattle.boot_model.specs.Entries.{boot_target}
use Rattle.boot_model.specs.Listing.{Boots, IsLinkTo, Selects, member_of}
use Rattle.boot_swap.specs.Lists.{HasList}
use Rattle.deploy_task.specs.Listed.{ids_in}

-- All that a version's list of these deployments is read from shows the same. Which others stand may change.
pub record SameVersionOf (ids : List DepId) (loader : ℕ) (d e : Disk) : Type 0 where
  pub entries : (file : Name) → shows e (entry_path loader file) ≡ shows d (entry_path loader file)
  pub link : shows e (boot_link_path loader) ≡ shows d (boot_link_path loader)
  pub links : (sub : ℕ) (rest : Path) → sub < 2 → IsLinkTo (boot_target loader sub) (shows d (boot_link_path loader)) → shows e (boot_folder_path loader sub ++ rest) ≡ shows d (boot_folder_path loader sub ++ rest)
  pub deployments : (id : DepId) → Contains ids id → shows e (deploy_path id.os id.commit id.serial) ≡ shows d (deploy_path id.os id.commit id.serial)

pub record SameListOf (ids : List DepId) (d e : Disk) : Type 0 where
  pub loader : shows e loader_path ≡ shows d loader_path
  pub version : (loader : ℕ) → Selects d loader → SameVersionOf ids loader d e

-- A crash left this disk: the list of the old items is read as one that a crash might have left before, or the new ones boot.
abbrev pub Leaves : List BootItem → List BootItem → View → Disk → Type 0
Leaves old new v d = ((before : Disk) × Image v before × SameListOf (ids_in old) before d) ⊎ Boots d new

-- Where each crash left the list of the old items, what it leaves is that list, or that of the new ones.
abbrev pub LeavesList : Type 0
LeavesList = (old new : List BootItem) (v : View) (d : Disk) → AreItems new → All (λ (item : BootItem). All IsText item.kargs) new
    → EachImage v (λ e. HasList e (map member_of old)) → Leaves old new v d → HasList d (map member_of old) ⊎ HasList d (map member_of new)
