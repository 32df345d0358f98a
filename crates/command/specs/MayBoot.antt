-- Which lists of deployments may boot: the one that lasts, and one that is published and doesn't last yet.
use Rattle.std.specs.Prelude.{◌≡◌, ◌⊎◌, List, Option, Some, None, IsSome}
use Rattle.ost_types.specs.declared.limits.Limits.{Limits}
use Rattle.ost_types.specs.Path.{Path}
use Rattle.fs_trait.specs.View.{Disk, View}
use Rattle.boot_model.specs.declared.item.DepId.{DepId}
use Rattle.boot_read.specs.declared.row.BootRow.{BootRow}
use Rattle.boot_read.specs.Rows.{AreRowsOf}
use Rattle.durable_list.specs.Standing.{ListStands, ListsSwap, ids_of}
use Rattle.durable_deployments.specs.Standing.{AreStanding}
use Rattle.rely_guarantee.specs.declared.books.Pending.{Pending}
use Rattle.rely_guarantee.specs.Books.{Books, listed_in}
use Rattle.rely_guarantee.specs.Laws.{Kind, Publish}
use Rattle.rely_guarantee.specs.State.{list_in}
use Rattle.rely_guarantee.specs.SystemInvariant.{IsRelistedByHolder}

-- the list that is published and doesn't last yet, if there is one
abbrev pub coming_of : Option Pending → Option (List DepId)
coming_of None = None
coming_of (Some p) = list_in p.event

abbrev pub coming_in : Books → Option (List DepId)
coming_in b = coming_of b.pending

-- A list that may boot, as it is read on this disk: the one that lasts, or the one that is published. Where none is published it is read
-- in what reads see.
pub record MayBoot (b : Books) (v : View) (base : Disk) (rows : List BootRow) : Type 0 where
  pub are : AreRowsOf base rows
  pub listed : (listed_in b ≡ ids_of rows) ⊎ (coming_in b ≡ Some (ids_of rows))
  pub now : coming_in b ≡ None → base ≡ v.now
  pub relists : IsRelistedByHolder b

-- One list boots, whatever a crash leaves, and each of its deployments is whole.
pub record Boots (limits : Limits) (rows : List BootRow) (v : View) : Type 0 where
  pub list : ListStands rows v
  pub deployments : AreStanding limits rows v

-- One of two does.
pub record BootsEither (limits : Limits) (before after : List BootRow) (v : View) : Type 0 where
  pub link : Path
  pub old : Disk
  pub new : Disk
  pub lists : ListsSwap link old new before after v
  pub left : AreStanding limits before v
  pub come : AreStanding limits after v

-- the step publishes another list
abbrev pub Relists : Kind → Type 0
Relists (Publish e) = IsSome (list_in e)
Relists k = ⊥
