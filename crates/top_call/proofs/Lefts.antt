-- What each crash leaves of the store.
use Rattle.std.proofs.Common.{◌≤◌, ℕ, List}
use Rattle.fs_trait.specs.Change.{Left}
use Rattle.fs_trait.specs.View.{Disk, View}
use Rattle.boot_read.specs.declared.row.BootRow.{BootRow}
use Rattle.durable_store.proofs.Keepings.{good_store}
use Rattle.lane_system.specs.Booting.{KeepsBoots}
use Rattle.lane_system.specs.Family.{FsSpec}
use Rattle.lane_system.specs.Storing.{AreStored, WasBrought}
use Rattle.lane_system.specs.System.{System}
use Rattle.commands.specs.Family.{Answer, Task, Words, means}
use Rattle.sys_open.proofs.Goods.{good_of}
use Rattle.top_call.specs.Top.{LeftGood}

pub left_good : {F : Type 0} (f : FsSpec F) (s : System F Task Words Answer) (w : View) (rows : List BootRow) → AreStored f means s w → KeepsBoots (f.was s.base.fs) s.limits rows s.base.books.opened w
    → (t : ℕ) (d : Disk) → s.base.books.opened ≤ t → Left (f.was s.base.fs) t d → LeftGood s.limits (WasBrought means s) d
left_good f s w rows stored boots t d from left =
    let is = stored.keeps.since t d from left in
    record {
      store = is;
      opens = λ sane alone. good_of s.limits d sane is.same (good_store s.limits (WasBrought means s) _ d is alone) rows (boots.list.since t d from left) (boots.deployments.since t d from left) (boots.left_over.since t d from left);
    }
