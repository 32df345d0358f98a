-- The list of deployments that a disk boots (OSTree manual, "Deployments"; Boot Loader Specification).
use Rattle.std.specs.Prelude.{◌≡◌, ◌⊎◌, ◌<◌, ◌-◌, ◌++◌, ◌∷◌, [], ℕ, true, List, length, drop, map, codes, Some, Contains, All}
use Rattle.std.specs.Fmt.{decimal}
use Rattle.std.specs.Ordering.{nat_cmp}
use Rattle.std.specs.List.Sorted.{IsStrictlySortedBy}
use Rattle.ost_types.specs.declared.meta.Meta.{Meta}
use Rattle.ost_types.specs.Path.{Name, Path}
use Rattle.ost_types.specs.Csum.{hex_of}
use Rattle.fs_trait.specs.View.{Disk}
use Rattle.fs_trait.specs.Image.{is_folder, reads}
use Rattle.fs_trait.specs.Seen.{Seen, Vacant, Symlink, shows}
use Rattle.repo_layout.specs.BootPaths.{boot_folder_path, boot_link_path, entry_path, loader_path}
use Rattle.repo_layout.specs.Paths.{deploy_path}
use Rattle.boot_model.specs.declared.item.DepId.{DepId}
use Rattle.boot_model.specs.declared.item.BootItem.{BootItem}
use Rattle.boot_model.specs.Items.{IsAt, link_number}
use Rattle.boot_model.specs.Entries.{boot_target, deploy_target, entry_text, loader_target, named_link}

-- a symbolic link with this target
abbrev pub IsLinkTo : List ℕ → Seen → Type 0
IsLinkTo target s = (m : Meta) × (s ≡ Symlink m target)

-- The boot loader's link selects this version, 0 or 1.
pub record Selects (d : Disk) (version : ℕ) : Type 0 where
  pub small : version < 2
  pub link : IsLinkTo (loader_target version) (shows d loader_path)

abbrev pub ends_conf : Name → Type 0
ends_conf file = drop (length file - 5) file ≡ codes ".conf"

-- An entry of a version: a regular file of such a name, with these bytes.
pub record HasEntry (d : Disk) (version : ℕ) (file : Name) (bytes : List ℕ) : Type 0 where
  pub name : ends_conf file
  pub holds : reads d (entry_path version file) ≡ Some bytes

-- The link of a member, through the link of its version, leads to the folder of the deployment.
pub record Leads (d : Disk) (version : ℕ) (os : Name) (bootcsum : List ℕ) (number : ℕ) (id : DepId) : Type 0 where
  pub sub : ℕ
  pub small : sub < 2
  pub link : IsLinkTo (boot_target version sub) (shows d (boot_link_path version))
  pub item : IsLinkTo (deploy_target id) (shows d (boot_folder_path version sub ++ (os ∷ hex_of bootcsum ∷ decimal number ∷ [])))
  pub same : id.os ≡ os
  pub there : is_folder (d.at (deploy_path id.os id.commit id.serial)) ≡ true

-- a member of the list: a deployment, and the words for its kernel's command line
pub record Member : Type 0 where
  pub id : DepId
  pub kargs : List (List ℕ)

-- Which words name a deployment, and which do not.
abbrev pub names_link : ℕ → Name → List ℕ → ℕ → List ℕ
names_link version os bootcsum number = codes "ostree=" ++ named_link version os bootcsum number

-- a row of the list: an entry's file, its version, and the member that it leads to
pub record Row : Type 0 where
  pub file : Name
  pub version : ℕ
  pub member : Member

-- How entries are read: which version and which words of options these bytes have.
abbrev pub Reading : Type 1
Reading = List ℕ → ℕ → List (List ℕ) → Type 0

-- The entry is read as this row's: one of its words names a link, which leads to the deployment, and the others are its kernel's.
pub record IsRow (R : Reading) (d : Disk) (loader : ℕ) (row : Row) : Type 0 where
  pub bytes : List ℕ
  pub entry : HasEntry d loader row.file bytes
  pub before : List (List ℕ)
  pub after : List (List ℕ)
  pub os : Name
  pub bootcsum : List ℕ
  pub number : ℕ
  pub reads : R bytes row.version (before ++ (names_link loader os bootcsum number ∷ after))
  pub kargs : row.member.kargs ≡ before ++ after
  pub leads : Leads d loader os bootcsum number row.member.id

-- All entries of a version, the greatest version of an entry first.
pub record AreRows (R : Reading) (d : Disk) (loader : ℕ) (rows : List Row) : Type 0 where
  pub each : All (IsRow R d loader) rows
  pub all : (file : Name) (bytes : List ℕ) → HasEntry d loader file bytes → Contains (map (λ (r : Row). r.file) rows) file
  pub falling : IsStrictlySortedBy (λ a b. nat_cmp b a) (map (λ (r : Row). r.version) rows)

-- The list of a disk: empty without a boot loader's link, and else that of the entries of the version that it selects.
abbrev pub IsList : Reading → Disk → List Member → Type 0
IsList R d members = ((shows d loader_path ≡ Vacant) × (members ≡ []))
    ⊎ ((loader : ℕ) × Selects d loader × (rows : List Row) × AreRows R d loader rows × (members ≡ map (λ (r : Row). r.member) rows))

-- the members of a list that is to boot
abbrev pub member_of : BootItem → Member
member_of item = record { id = item.id; kargs = item.kargs }

-- ---- what a list is read from

-- All that the list of a version is read from shows the same: the entries, the version's link, the links in the folder that it names, and which
-- deployments are there.
pub record SameVersion (loader : ℕ) (d e : Disk) : Type 0 where
  pub entries : (file : Name) → shows e (entry_path loader file) ≡ shows d (entry_path loader file)
  pub link : shows e (boot_link_path loader) ≡ shows d (boot_link_path loader)
  pub links : (sub : ℕ) (rest : Path) → sub < 2 → IsLinkTo (boot_target loader sub) (shows d (boot_link_path loader)) → shows e (boot_folder_path loader sub ++ rest) ≡ shows d (boot_folder_path loader sub ++ rest)
  pub deployments : (id : DepId) → shows e (deploy_path id.os id.commit id.serial) ≡ shows d (deploy_path id.os id.commit id.serial)

-- The boot loader's link and all that the list of the version is read from which it selects show the same.
pub record SameList (d e : Disk) : Type 0 where
  pub loader : shows e loader_path ≡ shows d loader_path
  pub version : (loader : ℕ) → Selects d loader → SameVersion loader d e

-- ---- a list that boots

-- The entries of a version are those of the items: each text stands in one file, and no other entry is there. As each text has its
-- version, this says in which order they come.
pub record ShowsEntries (d : Disk) (loader : ℕ) (items : List BootItem) : Type 0 where
  pub each : (i : ℕ) (item : BootItem) → IsAt items i item → (file : Name) × HasEntry d loader file (entry_text loader items i item)
  pub only : (file : Name) (bytes : List ℕ) → HasEntry d loader file bytes → (i : ℕ) × (item : BootItem) × IsAt items i item × (bytes ≡ entry_text loader items i item)
  pub once : (f g : Name) (bytes : List ℕ) → HasEntry d loader f bytes → HasEntry d loader g bytes → f ≡ g

-- each item's link leads to its deployment
abbrev pub LeadsEach : Disk → ℕ → List BootItem → Type 0
LeadsEach d loader items = (i : ℕ) (item : BootItem) → IsAt items i item → Leads d loader item.id.os item.kernel.bootcsum (link_number items i item) item.id

-- The disk boots the items: the boot loader's link selects their entries, of which each leads to its deployment.
pub record Boots (d : Disk) (items : List BootItem) : Type 0 where
  pub loader : ℕ
  pub selects : Selects d loader
  pub entries : ShowsEntries d loader items
  pub leads : LeadsEach d loader items
