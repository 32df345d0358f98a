-- What is first wrong with the list of deployments of a disk: a rule that doesn't hold, where those before it do.
use Rattle.std.specs.Prelude.{◌≡◌, ◌≢◌, ◌≤◌, ℕ, List, Result, Ok, Err, IfErr, IsErrOf}
use Rattle.ost_types.specs.Path.{Name, Path}
use Rattle.fs_trait.specs.Count.{Rose}
use Rattle.fs_trait.specs.declared.types.FsErr.TheVariants.{Failed}
use Rattle.fs_trait.specs.Effect.{OfNone}
use Rattle.fs_trait.specs.View.{Disk}
use Rattle.fs_trait.specs.Seen.{Vacant, shows}
use Rattle.repo_layout.specs.BootPaths.{boot_link_path, entry_path, loader_path}
use Rattle.repo_layout.specs.Fixed.{entries_path}
use Rattle.boot_model.specs.Listing.{Selects}
use Rattle.boot_read.specs.declared.fault.EntryFault.{EntryFault}
use Rattle.boot_read.specs.declared.fault.ListFault.{ListFault}
use Rattle.boot_read.specs.declared.fault.ListFault.TheVariants.{BadLink, TooMany, BadEntry, NoDeployment, Fs, NoMemory}
use Rattle.boot_read.specs.declared.row.BootRow.{BootRow}
use Rattle.boot_read.specs.Entries.{IsUnread}
use Rattle.boot_read.specs.Links.{HasSub}
use Rattle.boot_read.specs.Rows.{AreRowsOf}
use Rattle.boot_read.specs.Rules.{AreFew, AreMany, IsBadItem, IsFirst, Lacks}

-- 1. something that selects no version stands at the boot loader's link
pub record NoLoader (d : Disk) : Type 0 where
  pub there : shows d loader_path ≢ Vacant
  pub none : (loader : ℕ) → ¬ (Selects d loader)

-- 2. the selected version's link leads to no folder of links
pub record NoFolder (d : Disk) (loader : ℕ) : Type 0 where
  pub selects : Selects d loader
  pub none : (sub : ℕ) → ¬ (HasSub d loader sub)

-- the first two rules hold
pub record HasFolders (d : Disk) (loader sub : ℕ) : Type 0 where
  pub selects : Selects d loader
  pub folder : HasSub d loader sub

-- the first three
pub record HasEntries (d : Disk) (loader sub : ℕ) : Type 0 where
  pub folders : HasFolders d loader sub
  pub few : AreFew d loader

-- the first four: each entry is read
pub record AreRead (d : Disk) (loader sub : ℕ) : Type 0 where
  pub entries : HasEntries d loader sub
  pub all : (file : Name) (fault : EntryFault) → ¬ (IsUnread d loader file fault)

-- the first five: no link of an entry is of another form
pub record AreLinked (d : Disk) (loader sub : ℕ) : Type 0 where
  pub read : AreRead d loader sub
  pub all : (file : Name) (path : Path) → ¬ (IsBadItem d loader sub file path)

-- 3. there are too many entries
pub record IsFirstTooMany (d : Disk) (path : Path) : Type 0 where
  pub loader : ℕ
  pub sub : ℕ
  pub before : HasFolders d loader sub
  pub many : AreMany d loader
  pub path_is : path ≡ entries_path loader

-- 4. an entry that isn't read is the first in the order of the names
pub record IsFirstUnread (d : Disk) (path : Path) (fault : EntryFault) : Type 0 where
  pub loader : ℕ
  pub sub : ℕ
  pub before : HasEntries d loader sub
  pub file : Name
  pub first : IsFirst (λ f. (wrong : EntryFault) × IsUnread d loader f wrong) file
  pub wrong : IsUnread d loader file fault
  pub path_is : path ≡ entry_path loader file

-- 5. so is an entry's link of another form
pub record IsFirstBadItem (d : Disk) (path : Path) : Type 0 where
  pub loader : ℕ
  pub sub : ℕ
  pub before : AreRead d loader sub
  pub file : Name
  pub first : IsFirst (λ f. (at : Path) × IsBadItem d loader sub f at) file
  pub bad : IsBadItem d loader sub file path

-- 6. and so is an entry without a deployment of its own
pub record IsFirstLack (d : Disk) (path : Path) : Type 0 where
  pub loader : ℕ
  pub sub : ℕ
  pub before : AreLinked d loader sub
  pub file : Name
  pub first : IsFirst (Lacks d loader sub) file
  pub path_is : path ≡ entry_path loader file

-- a link of another form, the first thing that is wrong
pub data IsFirstBadLink (d : Disk) (path : Path) : Type 0 where
  OfLoader : NoLoader d → path ≡ loader_path → IsFirstBadLink d path
  OfVersion : (loader : ℕ) → NoFolder d loader → path ≡ boot_link_path loader → IsFirstBadLink d path
  OfEntry : IsFirstBadItem d path → IsFirstBadLink d path

-- what is told where no list is: what is first wrong, or that a call failed or memory was wanted
abbrev pub IsFault : Disk → ListFault → Type 0
IsFault d (BadLink path) = IsFirstBadLink d path
IsFault d (TooMany path) = IsFirstTooMany d path
IsFault d (BadEntry path fault) = IsFirstUnread d path fault
IsFault d (NoDeployment path) = IsFirstLack d path
IsFault d (Fs error) = OfNone error
IsFault d NoMemory = Unit {0}

-- a call failed, or memory was wanted
abbrev pub IsOfCall : ListFault → Type 0
IsOfCall (Fs error) = OfNone error
IsOfCall NoMemory = Unit {0}
IsOfCall fault = ⊥

-- Each answer of the call that reads the list. Beside want of memory, and calls that failed, no two hold of one disk.
abbrev pub Answers : Disk → Result (List BootRow) ListFault → Type 0
Answers d (Ok rows) = AreRowsOf d rows
Answers d (Err fault) = IsFault d fault

-- the answer is of the disk, and not of a call
abbrev pub IsOfDisk : Result (List BootRow) ListFault → Type 0
IsOfDisk (Err (Fs error)) = ⊥
IsOfDisk (Err NoMemory) = ⊥
IsOfDisk answer = Unit {0}

-- Of one disk there is one answer.
abbrev pub AnsweredOnce : Type 0
AnsweredOnce = (d : Disk) (a b : Result (List BootRow) ListFault) → IsOfDisk a → IsOfDisk b → Answers d a → Answers d b → a ≡ b

-- no call of the file system gave it
abbrev pub IsOfNoCall : ListFault → Type 0
IsOfNoCall (Fs error) = ⊥
IsOfNoCall fault = Unit {0}

-- where a call gave it, that failed or lacked memory: no call is made that a rule of paths refuses
abbrev pub NamesNoRule : ListFault → Type 0
NamesNoRule (Fs error) = OfNone error
NamesNoRule fault = Unit {0}

-- A call failed only where the count of faults rose, or stands at its last value. It is so whether the view is told or not.
pub record HasCauseOf {T : Type 0} (before now : ℕ) (result : Result T ListFault) : Type 0 where
  pub later : before ≤ now
  pub failed : IsErrOf result (Fs Failed) → Rose before now
  pub named : IfErr result NamesNoRule
