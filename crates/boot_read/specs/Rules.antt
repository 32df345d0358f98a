-- What each rule of a list that is read asks of a disk.
use Rattle.std.specs.Prelude.{◌≡◌, ◌≢◌, ◌≤◌, ◌<◌, ℕ, true, List, length, Contains}
use Rattle.std.specs.Cmp.Lexicographic.{slice_cmp}
use Rattle.std.specs.Ordering.{nat_cmp}
use Rattle.std.specs.declared.cmp.Ordering.TheVariants.{Less}
use Rattle.ost_types.specs.Path.{Name, Path}
use Rattle.fs_trait.specs.View.{Disk}
use Rattle.fs_trait.specs.Image.{is_folder}
use Rattle.fs_trait.specs.Seen.{Vacant, shows}
use Rattle.repo_layout.specs.Paths.{deploy_path}
use Rattle.boot_model.specs.declared.item.DepId.{DepId}
use Rattle.bls_entry.specs.declared.entry.BlsEntry.{BlsEntry}
use Rattle.boot_read.specs.Entries.{AreEntries, IsEntry, IsRead, entries_limit}
use Rattle.boot_read.specs.Links.{IsItemLink, IsNamed, LeadsOn, item_link}

-- no more names than there may be have all entries
abbrev pub AreFew : Disk → ℕ → Type 0
AreFew d loader = (files : List Name) × (length files ≤ entries_limit) × ((file : Name) → IsEntry d loader file → Contains files file)

-- there are more entries
abbrev pub AreMany : Disk → ℕ → Type 0
AreMany d loader = (files : List Name) × AreEntries d loader files × (entries_limit < length files)

-- names in ascending order of their bytes
abbrev pub ComesBefore : Name → Name → Type 0
ComesBefore a b = slice_cmp nat_cmp a b ≡ Less

-- of all names with this property the first
pub record IsFirst (P : Name → Type 0) (file : Name) : Type 0 where
  pub has : P file
  pub least : (other : Name) → ComesBefore other file → ¬ (P other)

-- The entry names a link at this path, and there stands something that is no link to a deployment of the named stateroot.
pub record IsBadItem (d : Disk) (loader sub : ℕ) (file : Name) (path : Path) : Type 0 where
  pub os : Name
  pub bootcsum : List ℕ
  pub n : ℕ
  pub named : IsNamed d loader file os bootcsum n
  pub path_is : path ≡ item_link loader sub os bootcsum n
  pub there : shows d path ≢ Vacant
  pub other : (id : DepId) → ¬ (IsItemLink d path os id)

-- two entries have one version
pub record HaveSameVersion (d : Disk) (loader : ℕ) (file other : Name) : Type 0 where
  pub entry : BlsEntry
  pub second : BlsEntry
  pub read : IsRead d loader file entry
  pub also : IsRead d loader other second
  pub same : entry.version ≡ second.version

-- the entry leads to this deployment by some link
abbrev pub LeadsToId : Disk → ℕ → ℕ → Name → DepId → Type 0
LeadsToId d loader sub file id = (bootcsum : List ℕ) × (n : ℕ) × LeadsOn d loader sub file bootcsum n id

-- The entry leads to a deployment that is there, no other entry leads to that, and no other entry has its version.
pub record HasOwn (d : Disk) (loader sub : ℕ) (file : Name) : Type 0 where
  pub id : DepId
  pub leads : LeadsToId d loader sub file id
  pub there : is_folder (d.at (deploy_path id.os id.commit id.serial)) ≡ true
  pub alone : (other : Name) → LeadsToId d loader sub other id → other ≡ file
  pub version : (other : Name) → HaveSameVersion d loader file other → other ≡ file

-- An entry that has no deployment of its own: its word has another form or names the other version, nothing stands where its link or its
-- deployment is, or another entry has its version or its deployment.
pub record Lacks (d : Disk) (loader sub : ℕ) (file : Name) : Type 0 where
  pub entry : IsEntry d loader file
  pub none : ¬ (HasOwn d loader sub file)
