-- The list that a crash leaves.
use Rattle.std.specs.Prelude.{◌⊎◌, List, map, All}
use Rattle.ost_types.specs.Text.{IsText}
use Rattle.fs_trait.specs.View.{Disk, View}
use Rattle.fs_trait.specs.Image.{EachImage}
use Rattle.boot_model.specs.declared.item.BootItem.{BootItem}
use Rattle.boot_model.specs.Items.{AreItems}
use Rattle.boot_model.specs.Listing.{IsList, Member, member_of}
use Rattle.deploy_list.specs.EntryReads.{IsReadAs}
use Rattle.boot_swap.specs.Whole.{Leaves}

-- the disk's list, as its entries are read
abbrev pub HasList : Disk → List Member → Type 0
HasList d members = IsList IsReadAs d members

-- Where each crash left one list as a swap began, what it leaves is that list, or the new one.
abbrev pub LeavesList : Type 0
LeavesList = (items : List BootItem) (v : View) (members : List Member) (d : Disk) → AreItems items → All (λ (item : BootItem). All IsText item.kargs) items
    → EachImage v (λ e. HasList e members) → Leaves items v d → HasList d members ⊎ HasList d (map member_of items)
