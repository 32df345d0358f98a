-- Deployments that no list names, and where they stand (OSTree manual, "Deployments").
use Rattle.std.specs.Prelude.{◌≡◌, ◌⊎◌, ◌<◌, ◌^◌, ◌++◌, ◌∷◌, ◌==◌, ◌&&◌, Bool, [], List, Contains, codes}
use Rattle.std.specs.List.{list_any}
use Rattle.std.specs.Fmt.{decimal}
use Rattle.ost_types.specs.Csum.{hex_of}
use Rattle.ost_types.specs.Path.{Name, Path, same_name}
use Rattle.fs_trait.specs.View.{Disk}
use Rattle.fs_trait.specs.Seen.{Vacant, shows}
use Rattle.repo_layout.specs.OsName.{IsOsName}
use Rattle.repo_layout.specs.RefFile.{IsSum}
use Rattle.repo_layout.specs.Paths.{deploy_path}
use Rattle.repo_layout.specs.BootPaths.{origin_path}
use Rattle.boot_model.specs.declared.item.DepId.{DepId}

-- A deployment that may stand, and that the list doesn't name.
pub record IsFree (listed : List DepId) (id : DepId) : Type 0 where
  pub stateroot : IsOsName id.os
  pub sum : IsSum id.commit
  pub small : id.serial < 2 ^ 32
  pub unlisted : ¬ (Contains listed id)

-- the path of its files, or that of its origin file
abbrev pub IsPathOf : DepId → Path → Type 0
IsPathOf id p = (p ≡ deploy_path id.os id.commit id.serial) ⊎ (p ≡ origin_path id.os id.commit id.serial)

-- The path of such a deployment's files, or of its origin file.
abbrev pub IsUnlisted : List DepId → Path → Type 0
IsUnlisted listed p = (id : DepId) × IsFree listed id × IsPathOf id p

-- Nothing stands at any of these paths.
abbrev pub IsClean : Disk → List DepId → Type 0
IsClean d listed = (p : Path) → IsUnlisted listed p → shows d p ≡ Vacant

-- where the deployments of a stateroot stand, each under its name
abbrev pub deployments : Name → Path
deployments os = codes "ostree" ∷ codes "deploy" ∷ os ∷ codes "deploy" ∷ []

abbrev pub id_name : DepId → Name
id_name id = hex_of id.commit ++ (46 ∷ decimal id.serial)

-- the name of a deployment of the stateroot
pub record IsIdName (os : Name) (name : Name) (id : DepId) : Type 0 where
  pub os_is : id.os ≡ os
  pub whole : name ≡ id_name id
  pub stateroot : IsOsName id.os
  pub sum : IsSum id.commit
  pub small : id.serial < 2 ^ 32

abbrev pub IsNoId : Name → Name → Type 0
IsNoId os name = (id : DepId) → ¬ (IsIdName os name id)

-- In the stateroot this is the name of a deployment that the list doesn't name,
abbrev pub IsUnlistedId : List DepId → Name → Name → Type 0
IsUnlistedId listed os name = (id : DepId) × IsIdName os name id × (¬ (Contains listed id))

-- or that of its origin file.
abbrev pub IsUnlistedName : List DepId → Name → Name → Type 0
IsUnlistedName listed os name = IsUnlistedId listed os name ⊎ ((stem : Name) × (name ≡ stem ++ codes ".origin") × IsUnlistedId listed os stem)

-- whether two names of deployments are the same
abbrev pub same_id : DepId → DepId → Bool
same_id a b = same_name a.os b.os && same_name a.commit b.commit && (a.serial == b.serial)

abbrev pub is_listed : List DepId → DepId → Bool
is_listed listed id = list_any (same_id id) listed
