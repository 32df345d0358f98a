-- The boot entries of a version, and how each is read (Boot Loader Specification, "Type #1").
use Rattle.std.specs.Prelude.{◌≢◌, ◌<◌, ◌≤◌, ◌↔◌, not, ℕ, List, length, filter, Contains, Ok, Err}
use Rattle.std.specs.Cmp.Lexicographic.{slice_cmp}
use Rattle.std.specs.List.Sorted.{IsStrictlySortedBy}
use Rattle.std.specs.Ordering.{nat_cmp}
use Rattle.ost_types.specs.Path.{Name}
use Rattle.fs_trait.specs.View.{Disk}
use Rattle.boot_model.specs.Listing.{HasEntry}
use Rattle.bls_entry.specs.declared.entry.BlsEntry.{BlsEntry}
use Rattle.bls_entry.specs.declared.fault.BlsFault as bls
use Rattle.bls_entry.specs.Options.{is_ostree, words_of}
use Rattle.bls_entry.specs.Reading.{Reads}
use Rattle.boot_read.specs.declared.fault.EntryFault.{EntryFault}
use Rattle.boot_read.specs.declared.fault.EntryFault.TheVariants.{TooLong, Unread}

-- an entry of the version stands in this file
abbrev pub IsEntry : Disk → ℕ → Name → Type 0
IsEntry d loader file = (bytes : List ℕ) × HasEntry d loader file bytes

-- The files of all entries of the version, ascending by their names.
pub record AreEntries (d : Disk) (loader : ℕ) (files : List Name) : Type 0 where
  pub ascending : IsStrictlySortedBy (slice_cmp nat_cmp) files
  pub exact : (file : Name) → Contains files file ↔ IsEntry d loader file

-- the most entries of a version
abbrev pub entries_limit : ℕ
entries_limit = 8

-- the most bytes of an entry
abbrev pub entry_limit : ℕ
entry_limit = 1048576

-- The file is an entry of the version, and is read as this.
pub record IsRead (d : Disk) (loader : ℕ) (file : Name) (entry : BlsEntry) : Type 0 where
  pub bytes : List ℕ
  pub there : HasEntry d loader file bytes
  pub short : length bytes ≤ entry_limit
  pub reads : Reads bytes (Ok entry)

-- what is wrong with an entry of these bytes
abbrev pub IsNoEntry : List ℕ → EntryFault → Type 0
IsNoEntry bytes TooLong = entry_limit < length bytes
IsNoEntry bytes (Unread fault) = (length bytes ≤ entry_limit) × Reads bytes (Err fault) × (fault ≢ bls.TheVariants.NoMemory)

-- The file is an entry of the version, and has this fault.
pub record IsUnread (d : Disk) (loader : ℕ) (file : Name) (fault : EntryFault) : Type 0 where
  pub bytes : List ℕ
  pub there : HasEntry d loader file bytes
  pub wrong : IsNoEntry bytes fault

-- the words of the options that name no deployment
abbrev pub other_words : List ℕ → List (List ℕ)
other_words options = filter (λ word. not (is_ostree word)) (words_of options)
