-- What is asked of a list that was written to boot, so that it is read back (OSTree manual, "Deployments").
use Rattle.std.specs.Prelude.{◌≡◌, ◌≤◌, ◌<◌, ◌+◌, ◌-◌, ◌^◌, [], ℕ, List, length, All}
use Rattle.ost_types.specs.Path.{Name}
use Rattle.ost_types.specs.Text.{IsText}
use Rattle.fs_trait.specs.View.{Disk}
use Rattle.boot_model.specs.declared.item.BootItem.{BootItem}
use Rattle.boot_model.specs.Items.{AreItems, IsAt}
use Rattle.boot_model.specs.Entries.{entry_text, spaced}
use Rattle.boot_model.specs.Listing.{Boots, HasEntry}
use Rattle.boot_read.specs.Entries.{entry_limit}
use Rattle.boot_read.specs.Links.{HasSub}

-- the entry of each member stands in the file of its version
abbrev pub AreFiled : Disk → ℕ → List BootItem → (ℕ → Name) → Type 0
AreFiled d loader items files = (i : ℕ) (item : BootItem) → IsAt items i item → HasEntry d loader (files (length items - i)) (entry_text loader items i item)

-- no entry is longer than one that is read may be
abbrev pub AreShort : ℕ → List BootItem → Type 0
AreShort loader items = (i : ℕ) (item : BootItem) → IsAt items i item → length (entry_text loader items i item) ≤ entry_limit

-- The words for the kernel leave room for the rest of an entry, which has at most 2,048 bytes.
abbrev pub HasFewWords : BootItem → Type 0
HasFewWords item = length (spaced item.kargs) + 2048 ≤ entry_limit

-- Where the list is empty, the version's link leads to a folder of links all the same.
abbrev pub HasLinks : Disk → ℕ → List BootItem → Type 0
HasLinks d loader items = items ≡ [] → (sub : ℕ) × HasSub d loader sub

-- The disk boots the list, and a reader may take all that stands in its entries and its links.
pub record IsWritten (d : Disk) (items : List BootItem) : Type 0 where
  pub may : AreItems items
  pub texts : All (λ (item : BootItem). All IsText item.kargs) items
  pub serials : All (λ (item : BootItem). item.id.serial < 2 ^ 32) items
  pub boots : Boots d items
  pub short : AreShort boots.loader items
  pub links : HasLinks d boots.loader items
