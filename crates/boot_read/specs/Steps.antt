-- What is known after each step of reading the list, and what a step tells of one entry or one link.
use Rattle.std.specs.Prelude.{◌≡◌, ◌≢◌, ◌+◌, ◌-◌, ◌≤◌, ◌<◌, ◌==◌, ◌++◌, ◌∷◌, [], ◌&&◌, ◌||◌, not, ℕ, Bool, true, false, List, length, map, take, All, Option, Some, None}
use Rattle.ost_types.specs.declared.meta.Meta.{Meta}
use Rattle.ost_types.specs.Path.{Name, Path, same_name}
use Rattle.fs_trait.specs.declared.types.Node as node
use Rattle.fs_trait.specs.Effect.{OfNone}
use Rattle.fs_trait.specs.View.{Disk}
use Rattle.fs_trait.specs.Seen.{Vacant, shows}
use Rattle.repo_layout.specs.declared.fixed.Version.{Version}
use Rattle.repo_layout.specs.declared.fixed.Version.TheVariants.{Zero, One}
use Rattle.repo_layout.specs.Fixed.{number}
use Rattle.repo_layout.specs.BootPaths.{entry_path, loader_path}
use Rattle.boot_model.specs.declared.item.DepId.{DepId}
use Rattle.boot_model.specs.Listing.{HasEntry, Selects}
use Rattle.deploy_list.specs.Lists.{is_id}
use Rattle.bls_entry.specs.declared.entry.BlsEntry.{BlsEntry}
use Rattle.boot_words.specs.declared.word.NamedLink.{NamedLink}
use Rattle.boot_words.specs.Words.{LeadsTo}
use Rattle.boot_read.specs.declared.fault.ListFault.{ListFault}
use Rattle.boot_read.specs.declared.fault.ListFault.TheVariants.{BadLink, BadEntry, NoDeployment, Fs, NoMemory}
use Rattle.boot_read.specs.declared.row.BootRow.{BootRow}
use Rattle.boot_read.specs.declared.files.EntryFile.{EntryFile}
use Rattle.boot_read.specs.declared.texts.EntryText.{EntryText}
use Rattle.boot_read.specs.declared.links.Followed.{Followed}
use Rattle.boot_read.specs.Entries.{AreEntries, IsEntry, IsRead, IsUnread, entries_limit, entry_limit, other_words}
use Rattle.boot_read.specs.Links.{EntryNames, IsItemLink, LeadsOn}
use Rattle.boot_read.specs.Rows.{IsBootRow, IsLedRow}
use Rattle.boot_read.specs.Rules.{HasOwn, IsBadItem, Lacks}

-- ---- versions

-- which of two
abbrev pub either_of : {X : Type 0} → X → X → Version → X
either_of a b Zero = a
either_of a b One = b

-- a link with this target
abbrev pub IsNodeTo : List ℕ → node.Node → Type 0
IsNodeTo target n = (m : Meta) × (n ≡ node.TheVariants.Link m target)

-- the version that is selected: none where nothing stands at the boot loader's link
abbrev pub IsSelected : Disk → Option Version → Type 0
IsSelected d None = shows d loader_path ≡ Vacant
IsSelected d (Some version) = Selects d (number version)

-- ---- files

-- The file of an entry, with its bytes, or with one more than an entry may have.
pub record IsFileOf (d : Disk) (loader : ℕ) (file : EntryFile) : Type 0 where
  pub bytes : List ℕ
  pub there : HasEntry d loader file.name bytes
  pub front : file.bytes ≡ take (entry_limit + 1) bytes

-- an entry's file where one stands there
abbrev pub IsFileAt : Disk → ℕ → Name → Option EntryFile → Type 0
IsFileAt d loader name None = ¬ (IsEntry d loader name)
IsFileAt d loader name (Some file) = (file.name ≡ name) × IsFileOf d loader file

-- What was found is added, unless there are as many as may be.
abbrev pub IsPushed : List EntryFile → Option EntryFile → Bool → List EntryFile → Type 0
IsPushed old None true new = new ≡ old
IsPushed old None false new = ⊥
IsPushed old (Some file) true new = (length old < entries_limit) × (new ≡ old ++ file ∷ [])
IsPushed old (Some file) false new = length old ≡ entries_limit

-- the files of all entries
pub record AreFiles (d : Disk) (loader : ℕ) (files : List EntryFile) : Type 0 where
  pub entries : AreEntries d loader (map (λ (f : EntryFile). f.name) files)
  pub few : length files ≤ entries_limit
  pub each : All (IsFileOf d loader) files

-- ---- texts

abbrev pub IsTextOf : Disk → ℕ → EntryText → Type 0
IsTextOf d loader text = IsRead d loader text.name text.entry

-- all entries, read
pub record AreTexts (d : Disk) (loader : ℕ) (texts : List EntryText) : Type 0 where
  pub entries : AreEntries d loader (map (λ (t : EntryText). t.name) texts)
  pub few : length texts ≤ entries_limit
  pub each : All (IsTextOf d loader) texts

-- what is told of an entry that isn't read
abbrev pub TellsUnread : Disk → ℕ → Name → ListFault → Type 0
TellsUnread d loader file (BadEntry path fault) = (path ≡ entry_path loader file) × IsUnread d loader file fault
TellsUnread d loader file NoMemory = Unit {0}
TellsUnread d loader file fault = ⊥

-- ---- links

-- no word of the entry names a link of the version
abbrev pub NamesNothing : ℕ → BlsEntry → Type 0
NamesNothing loader entry = (os : Name) (bootcsum : List ℕ) (n : ℕ) → ¬ (EntryNames loader entry os bootcsum n)

-- a word of the entry names this one
abbrev pub NamesIt : ℕ → BlsEntry → NamedLink → Type 0
NamesIt loader entry link = EntryNames loader entry link.os link.bootcsum link.number

-- a link to this deployment of this stateroot
pub record NodeLeads (n : node.Node) (os : Name) (id : DepId) : Type 0 where
  pub target : List ℕ
  pub leads : LeadsTo target id
  pub link : IsNodeTo target n
  pub same : id.os ≡ os

-- something stands at the path that is no link to a deployment of this stateroot
abbrev pub TellsOther : Disk → Path → Name → ListFault → Type 0
TellsOther d at os (BadLink path) = (path ≡ at) × (shows d at ≢ Vacant) × ((id : DepId) → ¬ (IsItemLink d at os id))
TellsOther d at os (Fs error) = OfNone error
TellsOther d at os NoMemory = Unit {0}
TellsOther d at os fault = ⊥

-- what is told of an entry's link of another form
abbrev pub TellsBadItem : Disk → ℕ → ℕ → Name → ListFault → Type 0
TellsBadItem d loader sub file (BadLink path) = IsBadItem d loader sub file path
TellsBadItem d loader sub file (Fs error) = OfNone error
TellsBadItem d loader sub file NoMemory = Unit {0}
TellsBadItem d loader sub file fault = ⊥

-- the entry in this file leads to no deployment
abbrev pub LeadsNot : Disk → ℕ → ℕ → Name → Type 0
LeadsNot d loader sub file = (bootcsum : List ℕ) (n : ℕ) (id : DepId) → ¬ (LeadsOn d loader sub file bootcsum n id)

-- nothing of another form stands where the entry's link is
abbrev pub HasNoBad : Disk → ℕ → ℕ → Name → Type 0
HasNoBad d loader sub file = (path : Path) → ¬ (IsBadItem d loader sub file path)

-- the row of an entry, if it leads to a deployment
abbrev pub IsRowOf : Disk → ℕ → ℕ → Name → Option BootRow → Type 0
IsRowOf d loader sub file None = LeadsNot d loader sub file
IsRowOf d loader sub file (Some row) = (row.file ≡ file) × IsLedRow d loader sub row

-- An entry whose link was looked for.
pub record IsFollowed (d : Disk) (loader sub : ℕ) (followed : Followed) : Type 0 where
  pub entry : BlsEntry
  pub read : IsRead d loader followed.name entry
  pub version_is : followed.version ≡ entry.version
  pub row_is : IsRowOf d loader sub followed.name followed.row
  pub fine : HasNoBad d loader sub followed.name

-- all entries, whose links were looked for
pub record AreFollowed (d : Disk) (loader sub : ℕ) (all : List Followed) : Type 0 where
  pub entries : AreEntries d loader (map (λ (f : Followed). f.name) all)
  pub few : length all ≤ entries_limit
  pub each : All (IsFollowed d loader sub) all

-- the row of an entry and the link that it names
abbrev pub row_of : EntryText → NamedLink → DepId → BootRow
row_of text link id = record {
  file = text.name;
  version = text.entry.version;
  id = id;
  kargs = other_words text.entry.options;
  bootcsum = link.bootcsum;
  number = link.number;
}

-- ---- deployments

-- a row of this deployment
abbrev pub leads_to : DepId → Option BootRow → Bool
leads_to id None = false
leads_to id (Some row) = is_id id.os id.commit id.serial row.id

-- another entry of the same version, or one that leads to the same deployment
abbrev pub is_twin : BootRow → Followed → Bool
is_twin row other = not (same_name other.name row.file) && ((other.version == row.version) || leads_to row.id other.row)

abbrev pub is_folder_node : Option node.Node → Bool
is_folder_node None = false
is_folder_node (Some (node.TheVariants.Folder m)) = true
is_folder_node (Some (node.TheVariants.Link m target)) = false
is_folder_node (Some (node.TheVariants.File m len)) = false

-- what is told of an entry without a deployment of its own
abbrev pub TellsLack : Disk → ℕ → ℕ → Name → ListFault → Type 0
TellsLack d loader sub file (NoDeployment path) = (path ≡ entry_path loader file) × Lacks d loader sub file
TellsLack d loader sub file (Fs error) = OfNone error
TellsLack d loader sub file NoMemory = Unit {0}
TellsLack d loader sub file fault = ⊥

-- the row of an entry that has a deployment of its own
pub record IsOwned (d : Disk) (loader sub : ℕ) (row : BootRow) : Type 0 where
  pub row_is : IsBootRow d loader sub row
  pub own : HasOwn d loader sub row.file

-- the rows of all entries
pub record AreOwned (d : Disk) (loader sub : ℕ) (rows : List BootRow) : Type 0 where
  pub entries : AreEntries d loader (map (λ (r : BootRow). r.file) rows)
  pub few : length rows ≤ entries_limit
  pub each : All (IsOwned d loader sub) rows

-- the greater the version, the less
abbrev pub rank : BootRow → ℕ
rank row = 4294967295 - row.version
