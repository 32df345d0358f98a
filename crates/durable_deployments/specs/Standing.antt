-- That each crash leaves the deployments that boot as they are (OSTree manual, "Deployments").
use Rattle.std.specs.Prelude.{◌≡◌, ◌⊎◌, ◌≤◌, ◌++◌, ℕ, IsTrue, List, Contains}
use Rattle.ost_types.specs.declared.limits.Limits.{Limits}
use Rattle.ost_types.specs.declared.object.Kind.TheVariants.{Commit}
use Rattle.ost_types.specs.declared.object.ObjName.{ObjName}
use Rattle.ost_types.specs.Path.{Name, Path, is_below, under}
use Rattle.fs_trait.specs.View.{Disk, View}
use Rattle.fs_trait.specs.Seen.{Seen, MayBe, shows}
use Rattle.fs_trait.specs.Change.{Left}
use Rattle.repo_layout.specs.BootPaths.{kernel_path}
use Rattle.repo_layout.specs.Paths.{objects_folder_path}
use Rattle.repo_layout.specs.Place.{IsOutsideEtc}
use Rattle.repo_model.specs.Objects.{Stores, path_of}
use Rattle.repo_model.specs.Trees.{name_of}
use Rattle.reach.specs.Reach.{Is, ObjNames, Reach}
use Rattle.boot_model.specs.declared.item.DepId.{DepId}
use Rattle.boot_read.specs.declared.row.BootRow.{BootRow}
use Rattle.deployment_check.specs.Deployments.{IsWholeDeployment, etc_of, home_of}
use Rattle.rely_guarantee.specs.Lasting.{IsSafe}
use Rattle.rely_guarantee.specs.SystemInvariant.{Leads}

-- ---- where a deployment is read

-- the objects that a commit leads to, itself among them
abbrev pub IsReached : Disk → List ℕ → ObjNames
IsReached d commit = Reach (Stores d) (Is (name_of Commit commit))

-- such an object stands there
abbrev pub IsObjectOf : Disk → List ℕ → Path → Type 0
IsObjectOf d commit p = (o : ObjName) × IsReached d commit o × (p ≡ path_of o)

-- The path is one of the deployment's own: of a file outside its `etc`, which others may change; that of the `etc` itself; or one in
-- the folder of the copies of its kernel.
abbrev pub IsInDeployment : DepId → List ℕ → Path → Type 0
IsInDeployment id bootcsum p = ((rest : Path) × IsOutsideEtc rest × (p ≡ home_of id ++ rest))
    ⊎ (p ≡ etc_of id)
    ⊎ ((file : Name) × (p ≡ under (kernel_path id.os bootcsum) file))

-- a deployment is read there, to tell whether it is whole
abbrev pub IsDeploymentPath : Disk → DepId → List ℕ → Path → Type 0
IsDeploymentPath d id bootcsum p = IsObjectOf d id.commit p ⊎ IsInDeployment id bootcsum p

-- the path lies on the way to one of the deployment's own, or is one
abbrev pub IsOnTheWay : DepId → List ℕ → Path → Type 0
IsOnTheWay id bootcsum p = (at : Path) × IsInDeployment id bootcsum at × IsTrue (is_below p at)

-- ---- what each crash leaves of it

-- No crash takes the object away, or leaves something else in its place.
pub record IsFixed (v : View) (o : ObjName) : Type 0 where
  pub safe : IsSafe v o
  pub same : (s : Seen) → MayBe v (path_of o) s → s ≡ shows v.now (path_of o)

-- The deployment is whole, and wherever it is read, and on the way there, each crash leaves what there is now.
pub record DeploymentStands (limits : Limits) (v : View) (id : DepId) (bootcsum : List ℕ) : Type 0 where
  pub are : IsWholeDeployment limits v.now id bootcsum
  pub objects : (o : ObjName) → IsReached v.now id.commit o → IsFixed v o
  pub sure : (p : Path) (s : Seen) → IsOnTheWay id bootcsum p → MayBe v p s → s ≡ shows v.now p

-- where nothing may be written
abbrev pub IsKept : Disk → DepId → List ℕ → Path → Type 0
IsKept d id bootcsum p = IsObjectOf d id.commit p ⊎ IsOnTheWay id bootcsum p

-- From one view to a later one: at these paths nothing else is shown, or may be after a crash, and folders go on to lead to the objects.
pub record SparesDeployment (v w : View) (id : DepId) (bootcsum : List ℕ) : Type 0 where
  pub now : (p : Path) → IsKept v.now id bootcsum p → shows w.now p ≡ shows v.now p
  pub each : (p : Path) (s : Seen) → IsKept v.now id bootcsum p → MayBe w p s → MayBe v p s ⊎ (s ≡ shows v.now p)
  pub leads : (o : ObjName) → IsReached v.now id.commit o → Leads v (objects_folder_path o.csum) → Leads w (objects_folder_path o.csum)

-- so at its own paths, and on the way there
pub record SparesOwn (v w : View) (id : DepId) (bootcsum : List ℕ) : Type 0 where
  pub now : (p : Path) → IsOnTheWay id bootcsum p → shows w.now p ≡ shows v.now p
  pub each : (p : Path) (s : Seen) → IsOnTheWay id bootcsum p → MayBe w p s → MayBe v p s ⊎ (s ≡ shows v.now p)

-- ---- the same of all deployments of a list

abbrev pub AreWhole : Limits → Disk → List BootRow → Type 0
AreWhole limits d rows = (row : BootRow) → Contains rows row → IsWholeDeployment limits d row.id row.bootcsum

abbrev pub AreStanding : Limits → List BootRow → View → Type 0
AreStanding limits rows v = (row : BootRow) → Contains rows row → DeploymentStands limits v row.id row.bootcsum

abbrev pub AreOwnSpared : List BootRow → View → View → Type 0
AreOwnSpared rows v w = (row : BootRow) → Contains rows row → SparesOwn v w row.id row.bootcsum

abbrev pub AreSpared : List BootRow → View → View → Type 0
AreSpared rows v w = (row : BootRow) → Contains rows row → SparesDeployment v w row.id row.bootcsum

-- They stand in the view now, and are whole on each disk that a crash left at this moment or later.
pub record KeepsDeployments (was : ℕ → View → Type 0) (limits : Limits) (rows : List BootRow) (moment : ℕ) (v : View) : Type 0 where
  pub stands : AreStanding limits rows v
  pub since : (t : ℕ) (d : Disk) → moment ≤ t → Left was t d → AreWhole limits d rows
