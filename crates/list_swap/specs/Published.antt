-- One list of deployments that comes to boot in the place of another (OSTree manual, "Deployments").
use Rattle.std.specs.Prelude.{◌≡◌, ◌<◌, ◌^◌, ℕ, List, All, map}
use Rattle.ost_types.specs.Path.{Name, Path}
use Rattle.ost_types.specs.Text.{IsText}
use Rattle.fs_trait.specs.View.{Disk, View}
use Rattle.fs_trait.specs.Image.{IsTree}
use Rattle.fs_trait.specs.Change.{Writes}
use Rattle.boot_model.specs.declared.item.BootItem.{BootItem}
use Rattle.boot_read.specs.declared.row.BootRow.{BootRow}
use Rattle.boot_rows.specs.Rows.{rows_of}
use Rattle.boot_rows.specs.Written.{HasFewWords}
use Rattle.boot_compare.specs.declared.choosing.Swap.TheVariants.{Sub}
use Rattle.boot_swap.specs.declared.phase.Phase.{Phase}
use Rattle.boot_swap.specs.declared.phase.Phase.TheVariants.{ShowLink, ShowLoader}
use Rattle.boot_swap.specs.Swap.{Swapping}
use Rattle.boot_swap.specs.Steps.{Needs, WritesOf}
use Rattle.durable_list.specs.Standing.{ListStands, ListsSwap, ids_of}

-- What is asked of a list so that what is written of it is read back: the words for each kernel are texts, and leave room for the rest of an
-- entry.
pub record AreReadable (items : List BootItem) : Type 0 where
  pub texts : All (λ (item : BootItem). All IsText item.kargs) items
  pub words : All HasFewWords items

-- the serials have 32 bits
abbrev pub HaveSerials : List BootItem → Type 0
HaveSerials items = All (λ (item : BootItem). item.id.serial < 2 ^ 32) items

-- The list of the items may boot in the place of the rows: from the one view to the other a link was put, or may have been, that selects it.
pub record IsPublished (items : List BootItem) (rows : List BootRow) (v w : View) : Type 0 where
  pub link : Path
  pub new : Disk
  pub after : List BootRow
  pub files : ℕ → Name
  pub rows_are : after ≡ rows_of files items
  pub ids : ids_of after ≡ map (λ (item : BootItem). item.id) items
  pub swap : ListsSwap link v.now new rows after w

-- the step puts the link that shows the new list in its place
abbrev pub shows_in : Phase → Type 0
shows_in (ShowLink (Sub n) sub l) = Unit {0}
shows_in (ShowLoader n l) = Unit {0}
shows_in ph = ⊥

-- Whatever came of the call of that step, where one list stood one of two boots.
abbrev pub SwapsPublish : Type 0
SwapsPublish = (t : Swapping) (v w : View) (rows : List BootRow) → IsTree v.now → Needs t v → shows_in t.phase → Writes (WritesOf t v) v w → AreReadable t.items → HaveSerials t.items → ListStands rows v → IsPublished t.items rows v w
