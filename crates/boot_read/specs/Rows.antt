-- The rows of the list of deployments that a disk boots (OSTree manual, "Deployments"; Boot Loader Specification).
use Rattle.std.specs.Prelude.{◌≡◌, ◌⊎◌, ◌≤◌, [], ℕ, true, List, length, map, Contains, All}
use Rattle.std.specs.List.Sorted.{IsStrictlySortedBy}
use Rattle.std.specs.Ordering.{nat_cmp}
use Rattle.ost_types.specs.Path.{Name}
use Rattle.fs_trait.specs.Image.{is_folder}
use Rattle.fs_trait.specs.View.{Disk}
use Rattle.fs_trait.specs.Seen.{Vacant, shows}
use Rattle.repo_layout.specs.BootPaths.{loader_path}
use Rattle.repo_layout.specs.Paths.{deploy_path}
use Rattle.boot_model.specs.Listing.{Selects}
use Rattle.bls_entry.specs.declared.entry.BlsEntry.{BlsEntry}
use Rattle.boot_read.specs.declared.row.BootRow.{BootRow}
use Rattle.boot_read.specs.Entries.{IsEntry, IsRead, entries_limit, other_words}
use Rattle.boot_read.specs.Links.{HasSub, LeadsOn}

-- The entry of a row: it names the link of the row's stateroot, sum and number, which leads to the row's deployment, and its other words are
-- its kernel's.
pub record IsLedRow (d : Disk) (loader sub : ℕ) (row : BootRow) : Type 0 where
  pub entry : BlsEntry
  pub read : IsRead d loader row.file entry
  pub version_is : row.version ≡ entry.version
  pub kargs_are : row.kargs ≡ other_words entry.options
  pub leads : LeadsOn d loader sub row.file row.bootcsum row.number row.id

-- The deployment is there, too.
pub record IsBootRow (d : Disk) (loader sub : ℕ) (row : BootRow) : Type 0 where
  pub led : IsLedRow d loader sub row
  pub there : is_folder (d.at (deploy_path row.id.os row.id.commit row.id.serial)) ≡ true

-- All entries of the selected version, at most 8, the greatest version of an entry first; no two lead to one deployment.
pub record AreBootRows (d : Disk) (loader sub : ℕ) (rows : List BootRow) : Type 0 where
  pub few : length rows ≤ entries_limit
  pub each : All (IsBootRow d loader sub) rows
  pub all : (file : Name) → IsEntry d loader file → Contains (map (λ (r : BootRow). r.file) rows) file
  pub falling : IsStrictlySortedBy (λ a b. nat_cmp b a) (map (λ (r : BootRow). r.version) rows)
  pub differ : (r s : BootRow) → Contains rows r → Contains rows s → r.id ≡ s.id → r.file ≡ s.file

-- The rows of a disk: none where nothing stands at the boot loader's link, and else those of the version that it selects.
abbrev pub AreRowsOf : Disk → List BootRow → Type 0
AreRowsOf d rows = ((shows d loader_path ≡ Vacant) × (rows ≡ []))
    ⊎ ((loader : ℕ) × (sub : ℕ) × Selects d loader × HasSub d loader sub × AreBootRows d loader sub rows)
