-- The links that lead from an entry to its deployment (OSTree manual, "Deployments").
use Rattle.std.specs.Prelude.{◌≡◌, ◌<◌, ◌++◌, ◌∷◌, [], ℕ, List}
use Rattle.std.specs.Fmt.{decimal}
use Rattle.ost_types.specs.Csum.{hex_of}
use Rattle.ost_types.specs.Path.{Name, Path}
use Rattle.fs_trait.specs.View.{Disk}
use Rattle.fs_trait.specs.Seen.{shows}
use Rattle.repo_layout.specs.BootPaths.{boot_folder_path, boot_link_path}
use Rattle.boot_model.specs.declared.item.DepId.{DepId}
use Rattle.boot_model.specs.Entries.{boot_target}
use Rattle.boot_model.specs.Listing.{IsLinkTo}
use Rattle.bls_entry.specs.declared.entry.BlsEntry.{BlsEntry}
use Rattle.bls_entry.specs.Options.{HasOstree}
use Rattle.boot_words.specs.Words.{LeadsTo, NamesLink}
use Rattle.boot_read.specs.Entries.{IsRead}

-- The link of the version leads to the folder of its links of this sub-version, 0 or 1.
pub record HasSub (d : Disk) (loader sub : ℕ) : Type 0 where
  pub small : sub < 2
  pub link : IsLinkTo (boot_target loader sub) (shows d (boot_link_path loader))

-- where a link of a stateroot and a kernel's sum stands
abbrev pub item_link : ℕ → ℕ → Name → List ℕ → ℕ → Path
item_link loader sub os bootcsum n = boot_folder_path loader sub ++ (os ∷ hex_of bootcsum ∷ decimal n ∷ [])

-- one word of the entry names this link, through the link of the version
pub record EntryNames (loader : ℕ) (entry : BlsEntry) (os : Name) (bootcsum : List ℕ) (n : ℕ) : Type 0 where
  pub value : List ℕ
  pub word : HasOstree entry.options value
  pub names : NamesLink value loader os bootcsum n

-- The entry in this file names this link.
pub record IsNamed (d : Disk) (loader : ℕ) (file os : Name) (bootcsum : List ℕ) (n : ℕ) : Type 0 where
  pub entry : BlsEntry
  pub read : IsRead d loader file entry
  pub names : EntryNames loader entry os bootcsum n

-- A link to a deployment of this stateroot stands at the path.
pub record IsItemLink (d : Disk) (path : Path) (os : Name) (id : DepId) : Type 0 where
  pub target : List ℕ
  pub leads : LeadsTo target id
  pub link : IsLinkTo target (shows d path)
  pub same : id.os ≡ os

-- The entry in this file names this link, which leads to the deployment, whether that is there or not.
pub record LeadsOn (d : Disk) (loader sub : ℕ) (file : Name) (bootcsum : List ℕ) (n : ℕ) (id : DepId) : Type 0 where
  pub named : IsNamed d loader file id.os bootcsum n
  pub link : IsItemLink d (item_link loader sub id.os bootcsum n) id.os id
