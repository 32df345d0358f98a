-- What is written to boot is read back.
use Rattle.std.specs.Prelude.{◌≡◌, ◌<◌, ℕ, List, map, All}
use Rattle.ost_types.specs.Path.{Name}
use Rattle.fs_trait.specs.View.{Disk}
use Rattle.boot_model.specs.declared.item.BootItem.{BootItem}
use Rattle.boot_model.specs.Items.{AreItems}
use Rattle.boot_model.specs.Listing.{Selects}
use Rattle.boot_read.specs.declared.fault.ListFault.{ListFault}
use Rattle.boot_read.specs.declared.row.BootRow.{BootRow}
use Rattle.boot_read.specs.Faults.{IsFault, IsOfCall}
use Rattle.boot_read.specs.Rows.{AreRowsOf}
use Rattle.boot_rows.specs.Rows.{rows_of}
use Rattle.boot_rows.specs.Written.{AreFiled, AreShort, HasFewWords, IsWritten}

-- The disk's rows are those of the members, in some files.
abbrev pub WrittenAreRead : Type 0
WrittenAreRead = (d : Disk) (items : List BootItem) → IsWritten d items → (files : ℕ → Name) × AreRowsOf d (rows_of files items)

-- Whatever rows the disk has, they are these.
abbrev pub OnlyWrittenAreRead : Type 0
OnlyWrittenAreRead = (d : Disk) (items : List BootItem) (rows : List BootRow) → IsWritten d items → AreRowsOf d rows → (files : ℕ → Name) × (rows ≡ rows_of files items)

-- What a reader is told in place of rows is of a call, and not of the disk.
abbrev pub NoneIsWrong : Type 0
NoneIsWrong = (d : Disk) (items : List BootItem) (fault : ListFault) → IsWritten d items → IsFault d fault → IsOfCall fault

-- Where the entries of the selected version stand in given files, the rows name these.
abbrev pub FiledAreRead : Type 0
FiledAreRead = (d : Disk) (loader : ℕ) (items : List BootItem) (files : ℕ → Name) → IsWritten d items → Selects d loader → AreFiled d loader items files → AreRowsOf d (rows_of files items)

-- Few words for each kernel make entries that are short enough.
abbrev pub FewWordsAreShort : Type 0
FewWordsAreShort = (loader : ℕ) (items : List BootItem) → loader < 2 → AreItems items → All HasFewWords items → AreShort loader items

-- What the rows tell of the members, in their order.
abbrev pub TellIds : Type 0
TellIds = (files : ℕ → Name) (items : List BootItem) → map (λ (r : BootRow). r.id) (rows_of files items) ≡ map (λ (item : BootItem). item.id) items

abbrev pub TellKargs : Type 0
TellKargs = (files : ℕ → Name) (items : List BootItem) → map (λ (r : BootRow). r.kargs) (rows_of files items) ≡ map (λ (item : BootItem). item.kargs) items

abbrev pub TellSums : Type 0
TellSums = (files : ℕ → Name) (items : List BootItem) → map (λ (r : BootRow). r.bootcsum) (rows_of files items) ≡ map (λ (item : BootItem). item.kernel.bootcsum) items
