-- The checks of an opening, in their order, and what is told of a disk on which one fails.
use Rattle.std.specs.Prelude.{◌≡◌, ◌⊎◌, ◌<◌, ◌+◌, ℕ, List}
use Rattle.std.specs.declared.cmp.Ordering.TheVariants.{Less}
use Rattle.ost_types.specs.declared.limits.Limits.{Limits}
use Rattle.ost_types.specs.declared.object.Kind.TheVariants as kind
use Rattle.ost_types.specs.declared.object.ObjName.{ObjName}
use Rattle.ost_types.specs.Path.{Path, path_cmp}
use Rattle.ost_objects.specs.declared.fault.CheckFault.{CheckFault}
use Rattle.fs_trait.specs.View.{Disk}
use Rattle.fs_trait.specs.Seen.{Seen, Vacant, Leaf, shows}
use Rattle.repo_layout.specs.declared.folder.Folder.TheVariants as folder
use Rattle.repo_layout.specs.Paths.{config_path, folder_path, ref_path}
use Rattle.repo_layout.specs.Refs.{Names}
use Rattle.repo_model.specs.Objects.{path_of}
use Rattle.repo_model.specs.Trees.{name_of}
use Rattle.repo_config.specs.Config.{IsConfig}
use Rattle.layout_rules.specs.Checks as rules
use Rattle.boot_read.specs.declared.fault.ListFault.{ListFault}
use Rattle.boot_read.specs.declared.fault.ListFault.TheVariants as list
use Rattle.boot_read.specs.declared.row.BootRow.{BootRow}
use Rattle.boot_read.specs.Faults as lists
use Rattle.boot_read.specs.Rows.{AreRowsOf}
use Rattle.durable_deployments.specs.Standing as deployments
use Rattle.store_check.specs.Commits.{IsFinished, IsFirstIncomplete, IsWhole}
use Rattle.store_check.specs.Listing.{HasFew, HasMore}
use Rattle.store_check.specs.Objects.{IsFirstBad, IsSound}
use Rattle.sys_open.specs.declared.fault.Why.{Why}
use Rattle.sys_open.specs.declared.fault.Why.TheVariants.{BadConfig, BadRef, BadObject, Incomplete, TooMany, WrongKind, BadLink, BadEntry, NoDeployment}
use Rattle.sys_open.specs.Booted.{HasBroken, HasUnfit}
use Rattle.sys_open.specs.LeftOver.{CanGo}

-- The checks, in the order in which they are made.
pub data Check : Type 0 where
  Places : Check  -- what stands at a place of the layout suits it
  Config : Check  -- the configuration is one
  RefFiles : Check  -- each leaf at or below the folder of refs is a ref file under the path of a good name
  Objects : Check  -- each object is what its name says, and there aren't too many
  Commits : Check  -- each commit without a mark is whole, and each ref names one that is there
  BootList : Check  -- the disk boots a list of deployments, or nothing
  Deployments : Check  -- each deployment of the list is the checkout of its commit, with copies of its kernel
  Staging : Check  -- what stands at a staging path, or may be what no list boots, now or later, can be removed

abbrev pub turn : Check → ℕ
turn Places = 1
turn Config = 2
turn RefFiles = 3
turn Objects = 4
turn Commits = 5
turn BootList = 6
turn Deployments = 7
turn Staging = 8

-- a regular file is shown that is a configuration
abbrev pub ShowsConfig : Seen → Type 0
ShowsConfig (Leaf n m bytes) = IsConfig bytes
ShowsConfig s = ⊥

-- there is none yet, or one that is
abbrev pub HasConfig : Disk → Type 0
HasConfig d = (shows d config_path ≡ Vacant) ⊎ ShowsConfig (shows d config_path)

-- each object is what its name says, and there are at most so many
abbrev pub AreSound : Limits → Disk → Type 0
AreSound limits d = HasFew d limits.objects × ((name : ObjName) → IsSound d limits.content name)

abbrev pub AreWhole : Limits → Disk → Type 0
AreWhole limits d = (commit : List ℕ) → IsWhole d limits commit

-- each ref names a commit that is there and has no mark
abbrev pub AreFounded : Disk → Type 0
AreFounded d = (name commit : List ℕ) → Names d name commit → IsFinished d commit

-- the disk boots a list, of which there may be no rows
abbrev pub BootsList : Disk → Type 0
BootsList d = (rows : List BootRow) × AreRowsOf d rows

-- each deployment of the list is whole
abbrev pub BootsWhole : Limits → Disk → Type 0
BootsWhole limits d = (rows : List BootRow) → AreRowsOf d rows → deployments.AreWhole limits d rows

-- what an opening removes, this one or a later one, can be removed
abbrev pub Clearable : Disk → Path → Type 0
Clearable d p = rules.Asks rules.Staging d p × CanGo d p

-- What a check asks of a disk.
abbrev pub Passes : Check → Limits → Disk → Type 0
Passes Places limits d = (p : Path) → rules.Asks rules.Kinds d p
Passes Config limits d = HasConfig d
Passes RefFiles limits d = (p : Path) → rules.Asks rules.RefFiles d p
Passes Objects limits d = AreSound limits d
Passes Commits limits d = AreWhole limits d × AreFounded d
Passes BootList limits d = BootsList d
Passes Deployments limits d = BootsWhole limits d
Passes Staging limits d = (p : Path) → Clearable d p

-- A repository is opened on a disk that passes all of them.
abbrev pub IsGood : Limits → Disk → Type 0
IsGood limits d = (check : Check) → Passes check limits d

-- The least path of which it isn't so.
pub record IsLeast (So : Path → Type 0) (p : Path) : Type 0 where
  pub wrong : ¬ (So p)
  pub least : (q : Path) → path_cmp q p ≡ Less → So q

-- There are too many objects, which is told at their folder.
pub record HasTooMany (limits : Limits) (d : Disk) (p : Path) (why : Why) : Type 0 where
  pub told : why ≡ TooMany (limits.objects + 1)
  pub path : p ≡ folder_path folder.Objects
  pub more : HasMore d limits.objects

-- Something else stands at the path of an object, the first by path.
pub record HasBadObject (limits : Limits) (d : Disk) (p : Path) (why : Why) : Type 0 where
  pub name : ObjName
  pub fault : CheckFault
  pub told : why ≡ BadObject fault
  pub path : p ≡ path_of name
  pub few : HasFew d limits.objects
  pub first : IsFirstBad d limits.content name fault

-- The first ref by path that names a commit which isn't there, or has a mark.
pub record IsFirstUnfounded (d : Disk) (p : Path) (object : ObjName) : Type 0 where
  pub name : List ℕ
  pub commit : List ℕ
  pub names : Names d name commit
  pub path : p ≡ ref_path name
  pub lacks : object ≡ name_of kind.Commit commit
  pub wrong : ¬ (IsFinished d commit)
  pub least : (other target : List ℕ) → Names d other target → path_cmp (ref_path other) p ≡ Less → IsFinished d target

-- An object is missing, of a commit, or, where all are whole, of a ref.
pub record HasIncomplete (limits : Limits) (d : Disk) (p : Path) (why : Why) : Type 0 where
  pub object : ObjName
  pub told : why ≡ Incomplete object
  pub first : IsFirstIncomplete d limits p object ⊎ (AreWhole limits d × IsFirstUnfounded d p object)

-- what is told of a fault of the list, at which path
abbrev pub IsToldOfList : ListFault → Path → Why → Type 0
IsToldOfList (list.BadLink at) p why = (p ≡ at) × (why ≡ BadLink)
IsToldOfList (list.TooMany at) p why = (p ≡ at) × (why ≡ TooMany 9)
IsToldOfList (list.BadEntry at fault) p why = (p ≡ at) × (why ≡ BadEntry fault)
IsToldOfList (list.NoDeployment at) p why = (p ≡ at) × (why ≡ NoDeployment)
IsToldOfList fault p why = ⊥

-- What is first wrong with the list.
pub record HasBadList (d : Disk) (p : Path) (why : Why) : Type 0 where
  pub fault : ListFault
  pub first : lists.IsFault d fault
  pub told : IsToldOfList fault p why

-- Where a check fails, and what is told of it.
abbrev pub Fails : Check → Limits → Disk → Path → Why → Type 0
Fails Places limits d p why = (why ≡ WrongKind) × IsLeast (rules.Asks rules.Kinds d) p
Fails Config limits d p why = (why ≡ BadConfig) × (p ≡ config_path) × (¬ (HasConfig d))
Fails RefFiles limits d p why = (why ≡ BadRef) × IsLeast (rules.Asks rules.RefFiles d) p
Fails Objects limits d p why = HasTooMany limits d p why ⊎ HasBadObject limits d p why
Fails Commits limits d p why = HasIncomplete limits d p why
Fails BootList limits d p why = HasBadList d p why
Fails Deployments limits d p why = HasUnfit limits d p why ⊎ HasBroken limits d p why
Fails Staging limits d p why = (why ≡ WrongKind) × IsLeast (Clearable d) p

-- The first check that fails, and what is told of it.
pub record IsFault (limits : Limits) (d : Disk) (p : Path) (why : Why) : Type 0 where
  pub check : Check
  pub fails : Fails check limits d p why
  pub first : (earlier : Check) → turn earlier < turn check → Passes earlier limits d
