-- That each crash leaves the list of deployments that boots (OSTree manual, "Deployments").
use Rattle.std.specs.Prelude.{◌≡◌, ◌≢◌, ◌⊎◌, ◌≤◌, ◌++◌, ℕ, IsTrue, List, Contains, Option, Some, None, map}
use Rattle.ost_types.specs.Path.{Name, Path, is_below, under}
use Rattle.fs_trait.specs.View.{Disk, View}
use Rattle.fs_trait.specs.Image.{IsTree}
use Rattle.fs_trait.specs.Seen.{Seen, IsDirectory, MayBe, Vacant, shows}
use Rattle.fs_trait.specs.Change.{Left}
use Rattle.repo_layout.specs.BootPaths.{boot_folder_path, boot_link_path, entry_path, loader_path}
use Rattle.repo_layout.specs.Paths.{deploy_path}
use Rattle.boot_model.specs.declared.item.DepId.{DepId}
use Rattle.boot_model.specs.Listing.{Selects}
use Rattle.boot_read.specs.declared.row.BootRow.{BootRow}
use Rattle.boot_read.specs.Links.{HasSub}
use Rattle.boot_read.specs.Rows.{AreRowsOf}

-- A list is selected: something stands at the boot loader's link.
abbrev pub HasLoader : Disk → Type 0
HasLoader d = shows d loader_path ≢ Vacant

-- the deployments of a list, by their names, the one that boots first in front
abbrev pub ids_of : List BootRow → List DepId
ids_of rows = map (λ (r : BootRow). r.id) rows

-- the version's link, a file beside its entries, or what stands in the folder that its link names
abbrev pub IsInVersion : Disk → ℕ → Path → Type 0
IsInVersion d loader p = (p ≡ boot_link_path loader)
    ⊎ ((file : Name) × (p ≡ entry_path loader file))
    ⊎ ((sub : ℕ) × HasSub d loader sub × (rest : Path) × (p ≡ boot_folder_path loader sub ++ rest))

-- the folder of a deployment of the list
abbrev pub IsDeployment : List BootRow → Path → Type 0
IsDeployment rows p = (row : BootRow) × Contains rows row × (p ≡ deploy_path row.id.os row.id.commit row.id.serial)

-- where a disk's list is read: the boot loader's link, the version that it selects, and the folders of the deployments
abbrev pub IsListPath : Disk → List BootRow → Path → Type 0
IsListPath d rows p = (p ≡ loader_path)
    ⊎ ((loader : ℕ) × Selects d loader × IsInVersion d loader p)
    ⊎ IsDeployment rows p

-- the path lies on the way to where the list is read, or it is read there
abbrev pub IsOnTheWay : Disk → List BootRow → Path → Type 0
IsOnTheWay d rows p = (at : Path) × IsListPath d rows at × IsTrue (is_below p at)

-- The rows are the list, and wherever it is read, and on the way there, each crash leaves what there is now.
pub record ListStands (rows : List BootRow) (v : View) : Type 0 where
  pub are : AreRowsOf v.now rows
  pub sure : (p : Path) (s : Seen) → IsOnTheWay v.now rows p → MayBe v p s → s ≡ shows v.now p

-- From one view to a later one: where the list of a disk is read, and on the way there, nothing else is shown, or may be after a crash.
pub record SparesList (base : Disk) (rows : List BootRow) (v w : View) : Type 0 where
  pub now : (p : Path) → IsOnTheWay base rows p → shows w.now p ≡ shows v.now p
  pub each : (p : Path) (s : Seen) → IsOnTheWay base rows p → MayBe w p s → MayBe v p s ⊎ (s ≡ shows v.now p)

-- The list stands in the view now, and each disk that a crash left at this moment or later has it.
pub record KeepsList (was : ℕ → View → Type 0) (rows : List BootRow) (moment : ℕ) (v : View) : Type 0 where
  pub stands : ListStands rows v
  pub since : (t : ℕ) (d : Disk) → moment ≤ t → Left was t d → AreRowsOf d rows

-- ---- one list in the place of another

-- where another list may be selected: at no path, or at one link
abbrev pub IsLink : Option Path → Path → Type 0
IsLink None p = ⊥
IsLink (Some link) p = p ≡ link

-- The rows are the list of that disk; and wherever it is read there, and on the way, each crash of the view leaves what that disk has, but
-- at the link.
pub record ListOf (link : Option Path) (base : Disk) (rows : List BootRow) (v : View) : Type 0 where
  pub are : AreRowsOf base rows
  pub sure : (p : Path) (s : Seen) → IsOnTheWay base rows p → MayBe v p s → (s ≡ shows base p) ⊎ IsLink link p

-- the disk has the folder in which the link stands, or is to stand
abbrev pub HasFolderOf : Path → Disk → Type 0
HasFolderOf link d = (f : Path) × (x : Name) × (link ≡ under f x) × IsDirectory (shows d f)

-- One of two lists boots: at the link, which is on the way to the old one, each crash leaves what the one disk has there, or what the other
-- has.
pub record ListsSwap (link : Path) (old new : Disk) (before after : List BootRow) (v : View) : Type 0 where
  pub trees : IsTree old × IsTree new
  pub there : IsOnTheWay old before link
  pub home : HasFolderOf link old
  pub left : ListOf (Some link) old before v
  pub come : ListOf (Some link) new after v
  pub either : (s : Seen) → MayBe v link s → (s ≡ shows old link) ⊎ (s ≡ shows new link)

-- What begins a swap of a list that stands: where that is read, a crash leaves what there was, but at the link; there it leaves what there
-- was, or what the new disk has; and the new list is sure.
pub record BeginsSwap (link : Path) (new : Disk) (before after : List BootRow) (v w : View) : Type 0 where
  pub trees : IsTree v.now × IsTree new
  pub there : IsOnTheWay v.now before link
  pub home : HasFolderOf link v.now
  pub stays : (p : Path) (s : Seen) → IsOnTheWay v.now before p → MayBe w p s → (s ≡ shows v.now p) ⊎ (p ≡ link)
  pub come : ListOf (Some link) new after w
  pub either : (s : Seen) → MayBe w link s → (s ≡ shows v.now link) ⊎ (s ≡ shows new link)

-- a crash leaves nothing that it wouldn't have left
abbrev pub LeavesNoMore : View → View → Type 0
LeavesNoMore v w = (p : Path) (s : Seen) → MayBe w p s → MayBe v p s

-- What ends it: nothing is new, and the link is the new one in each crash.
pub record EndsSwap (link : Path) (new : Disk) (v w : View) : Type 0 where
  pub only : LeavesNoMore v w
  pub shown : (s : Seen) → MayBe w link s → s ≡ shows new link
