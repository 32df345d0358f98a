-- What acts keep of a system, where the view is told; what they keep of failed calls, in any case.
use Rattle.std.specs.Prelude.{◌≡◌, ℕ, List, Some}
use Rattle.fs_trait.specs.Image.{Told}
use Rattle.fs_trait.specs.View.{Disk, View}
use Rattle.boot_read.specs.declared.row.BootRow.{BootRow}
use Rattle.lane_system.specs.Booting.{BootsStill}
use Rattle.lane_system.specs.Causes.{AreCaused}
use Rattle.lane_system.specs.Counts.{AreCounted}
use Rattle.lane_system.specs.Family.{Family, FsSpec}
use Rattle.lane_system.specs.Folders.{AreFolders}
use Rattle.lane_system.specs.Founded.{RefsNameDurableCommits}
use Rattle.lane_system.specs.Inside.{NoExternalChange}
use Rattle.lane_system.specs.Known.{AreKnown}
use Rattle.lane_system.specs.Lasting.{AreKept}
use Rattle.lane_system.specs.Remaining.{LastRemains}
use Rattle.lane_system.specs.Said.{RepliesHeldAtAPoint}
use Rattle.lane_system.specs.Staying.{AreStaying}
use Rattle.lane_system.specs.Storing.{AreStored}
use Rattle.lane_system.specs.System.{System}

-- What held of the old system holds of the new one: what each change made lasts; the store is good; failed calls are the causes of what is
-- told of them; nobody else changed the disk; folders of checkouts are those that were claimed, and stay; as many objects stand as were
-- counted; replies were so at a moment, and the last one is so still, once no command is left; refs name commits that last; objects are those
-- of the opening and those that were brought; and the disk boots what it booted.
pub record Preserves {F T W A : Type 0} (f : FsSpec F) (c : Family T W A) (old new : System F T W A) : Type 0 where
  pub lasts : (opening v : View) → f.view old.base.fs ≡ Some v → AreKept c.means f.was opening old v → Told (f.view new.base.fs) (λ w. AreKept c.means f.was opening new w)
  pub good : (v : View) → f.view old.base.fs ≡ Some v → AreStored f c.means old v → Told (f.view new.base.fs) (λ w. AreStored f c.means new w)
  pub caused : (before : ℕ) → AreCaused f.faults before old → AreCaused f.faults before new
  pub inside : (v : View) → f.view old.base.fs ≡ Some v → AreStored f c.means old v → NoExternalChange f c.means old → NoExternalChange f c.means new
  pub folders : (opening : Disk) (v : View) → f.view old.base.fs ≡ Some v → AreFolders c.means c.doing opening old v → Told (f.view new.base.fs) (λ w. AreFolders c.means c.doing opening new w)
  pub counted : (v : View) → f.view old.base.fs ≡ Some v → AreCounted old v → Told (f.view new.base.fs) (λ w. AreCounted new w)
  pub said : (v : View) → f.view old.base.fs ≡ Some v → AreStored f c.means old v → AreCounted old v → RepliesHeldAtAPoint c.means f.was old → RepliesHeldAtAPoint c.means f.was new
  pub stays : (v : View) → f.view old.base.fs ≡ Some v → AreStored f c.means old v → AreStaying c.means old v → Told (f.view new.base.fs) (λ w. AreStaying c.means new w)
  pub remains : (v : View) → f.view old.base.fs ≡ Some v → LastRemains c.means old v → Told (f.view new.base.fs) (λ w. LastRemains c.means new w)
  pub founded : (opening v : View) → f.view old.base.fs ≡ Some v → AreStored f c.means old v → RefsNameDurableCommits c.means opening old v → Told (f.view new.base.fs) (λ w. RefsNameDurableCommits c.means opening new w)
  pub known : (opening : Disk) (v : View) → f.view old.base.fs ≡ Some v → AreKnown f c.means opening old v → Told (f.view new.base.fs) (λ w. AreKnown f c.means opening new w)
  pub boots : (rows : List BootRow) (v : View) → f.view old.base.fs ≡ Some v → BootsStill f rows old v → Told (f.view new.base.fs) (λ w. BootsStill f rows new w)

-- All of it from an opening on, when the count of failed calls was this.
pub record Stands {F T W A : Type 0} (f : FsSpec F) (c : Family T W A) (before : ℕ) (opening : View) (s : System F T W A) (v : View) : Type 0 where
  pub lasts : AreKept c.means f.was opening s v
  pub good : AreStored f c.means s v
  pub caused : AreCaused f.faults before s
  pub inside : NoExternalChange f c.means s
  pub folders : AreFolders c.means c.doing opening.now s v
  pub counted : AreCounted s v
  pub said : RepliesHeldAtAPoint c.means f.was s
  pub stays : AreStaying c.means s v
  pub remains : LastRemains c.means s v
  pub founded : RefsNameDurableCommits c.means opening s v
