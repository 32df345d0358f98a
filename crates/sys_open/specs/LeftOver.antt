-- What an opening removes beside what is staged for a change of refs: what no list boots (OSTree manual, "Deployments"); and what may come
-- to be so later.
use Rattle.std.specs.Prelude.{◌≡◌, ◌≢◌, ◌⊎◌, ◌∷◌, [], IsTrue, List, Contains}
use Rattle.ost_types.specs.Path.{Name, Path, IsPath, is_below, under}
use Rattle.fs_trait.specs.declared.types.Value.TheVariants.{Absent}
use Rattle.fs_trait.specs.View.{Disk}
use Rattle.fs_trait.specs.Seen.{Vacant, shows}
use Rattle.repo_layout.specs.declared.fixed.Fixed.{Fixed}
use Rattle.repo_layout.specs.declared.fixed.Fixed.TheVariants.{LoaderFolder, BootLink, BootFolder}
use Rattle.repo_layout.specs.declared.fixed.Version.TheVariants.{Zero, One}
use Rattle.repo_layout.specs.BootPaths.{boot_link_stage_path, loader_stage_path, origin_path}
use Rattle.layout_rules.specs.Checks.{IsReached}
use Rattle.boot_model.specs.declared.item.DepId.{DepId}
use Rattle.boot_read.specs.declared.row.BootRow.{BootRow}
use Rattle.boot_read.specs.Rows.{AreRowsOf}
use Rattle.deploy_clean.specs.Unlisted.{IsUnlisted, deployments}
use Rattle.deployment_check.specs.Deployments.{etc_of}
use Rattle.durable_list.specs.Standing.{HasLoader, ids_of}
use Rattle.durable_deployments.specs.Bounds.{IsOfBoot, LiesWithin}

-- The path of a deployment that the list which the disk boots doesn't name, or of its origin file. Where no list is selected there is
-- none: the folder with the boot loader's link may just not be mounted.
pub record IsOfNoRow (d : Disk) (p : Path) : Type 0 where
  pub selected : HasLoader d
  pub rows : List BootRow
  pub are : AreRowsOf d rows
  pub unlisted : IsUnlisted (ids_of rows) p

-- The path where one of the two links by which a list boots is staged, or one of what no list boots.
abbrev pub IsLeftOver : Disk → Path → Type 0
IsLeftOver d p = (p ≡ loader_stage_path) ⊎ (p ≡ boot_link_stage_path) ⊎ IsOfNoRow d p

-- The path is at or below one of them.
abbrev pub LiesIn : Disk → Path → Type 0
LiesIn d p = (q : Path) × IsLeftOver d q × IsTrue (is_below q p)

-- What stands there can be removed, now or where a later list doesn't name it.
abbrev pub CanGo : Disk → Path → Type 0
CanGo d p = LiesWithin p → IsReached d p

-- all that stands at such a path or below it is within the bounds of paths
abbrev pub HasBoundedDeployments : Disk → Type 0
HasBoundedDeployments d = (p : Path) → LiesWithin p → shows d p ≢ Vacant → IsPath p

-- nothing stands at such a path or below it
abbrev pub HasNoLeftOvers : Disk → Type 0
HasNoLeftOvers d = (p : Path) → LiesIn d p → shows d p ≡ Vacant

-- These are such paths, and all of them at which something stands.
pub record AreLeftOvers (d : Disk) (paths : List Path) : Type 0 where
  pub each : (q : Path) → Contains paths q → IsLeftOver d q
  pub all : (q : Path) → IsLeftOver d q → d.at q ≢ Absent → Contains paths q

-- the path of a deployment's own `etc`, or of its origin file
abbrev pub IsOwnPath : DepId → Path → Type 0
IsOwnPath id q = (q ≡ etc_of id) ⊎ (q ≡ origin_path id.os id.commit id.serial)

-- the same of one of these
abbrev pub IsOwnOf : List DepId → Path → Type 0
IsOwnOf listed q = (id : DepId) × Contains listed id × IsOwnPath id q

-- what each of the two versions has
abbrev pub all_versioned : List Fixed
all_versioned = LoaderFolder Zero ∷ LoaderFolder One ∷ BootLink Zero ∷ BootLink One ∷ BootFolder Zero Zero ∷ BootFolder Zero One ∷ BootFolder One Zero ∷ BootFolder One One ∷ []

-- These are the paths of what stays where these deployments are listed, and isn't compared with a commit: what is their own, what the boot
-- loader follows, and where no list is selected all other deployments that stand.
pub record AreStaying (d : Disk) (listed : List DepId) (paths : List Path) : Type 0 where
  pub each : (q : Path) → Contains paths q → IsOwnOf listed q ⊎ IsUnlisted listed q ⊎ IsOfBoot q
  pub own : (q : Path) → IsOwnOf listed q → Contains paths q
  pub boot : (q : Path) → IsOfBoot q → Contains paths q
  pub others : ¬ (HasLoader d) → (q : Path) → IsUnlisted listed q → d.at q ≢ Absent → Contains paths q

-- ---- as they are gathered

-- What came to these paths is so, and all is there of which this is so; none was lost.
pub record Gathers (May Must : Path → Type 0) (old new : List Path) : Type 0 where
  pub may : (q : Path) → Contains new q → Contains old q ⊎ May q
  pub kept : (q : Path) → Contains old q → Contains new q
  pub must : (q : Path) → Must q → Contains new q

-- the path of what no list boots, in the folder of a stateroot's deployments,
abbrev pub IsUnlistedIn : List DepId → Name → Path → Type 0
IsUnlistedIn listed os q = ((name : Name) × (q ≡ under (deployments os) name)) × IsUnlisted listed q

-- or under this name in it
abbrev pub IsUnlistedAt : List DepId → Name → Name → Path → Type 0
IsUnlistedAt listed os name q = (q ≡ under (deployments os) name) × IsUnlisted listed q

-- one of these paths, and one at which something stands
abbrev pub IsThere : (Path → Type 0) → Disk → Path → Type 0
IsThere Is d q = Is q × (d.at q ≢ Absent)

-- at or below one of these paths
abbrev pub LiesBelow : List Path → Path → Type 0
LiesBelow paths p = (q : Path) × Contains paths q × IsTrue (is_below q p)

-- what is asked of all at or below these
abbrev pub AsksBelow : List Path → Disk → Path → Type 0
AsksBelow paths d p = LiesBelow paths p → IsReached d p
