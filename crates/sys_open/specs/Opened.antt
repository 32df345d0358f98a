-- What an opening gives.
use Rattle.std.specs.Prelude.{◌≡◌, ◌≤◌, ℕ, List, Option, Some}
use Rattle.ost_types.specs.declared.limits.Limits.{Limits}
use Rattle.ost_types.specs.declared.object.ObjName.{ObjName}
use Rattle.ost_types.specs.Path.{Name}
use Rattle.fs_trait.specs.View.{Disk, View}
use Rattle.fs_trait.specs.Change.{Left}
use Rattle.fs_trait.specs.Effect.{IsListing}
use Rattle.fs_trait.specs.Seen.{shows}
use Rattle.repo_layout.specs.declared.folder.Folder.TheVariants.{Checkouts}
use Rattle.repo_layout.specs.Paths.{config_path, folder_path}
use Rattle.boot_read.specs.declared.row.BootRow.{BootRow}
use Rattle.boot_read.specs.Rows.{AreRowsOf}
use Rattle.durable_deployments.specs.Standing.{AreWhole}
use Rattle.store_check.specs.Good.{IsGoodStore}
use Rattle.store_check.specs.Listing.{AreAll}
use Rattle.rely_guarantee.specs.State.{first}
use Rattle.rely_guarantee.specs.Opening.{IsOpening, HasSince}
use Rattle.sys_open.specs.Damages.{ShowsConfig}
use Rattle.sys_open.specs.LeftOver.{HasNoLeftOvers, HasBoundedDeployments}
use Rattle.sys_open.specs.Opening.{AreAscending, HasNoStages, IsGoodSince}

-- An open repository as plain data: the file system, the refs, the clock after the first barrier, the count of failed calls at
-- the beginning, the limits, the names of all objects, the rows of the list that boots, and the names of the checkouts.
pub record Opened (F : Type 0) : Type 0 where
  pub fs : F
  pub refs : List (List ℕ × List ℕ)
  pub clock : ℕ
  pub faults : ℕ
  pub limits : Limits
  pub objects : List ObjName
  pub rows : List BootRow
  pub checkouts : List Name

-- What every open repository keeps: a system can begin on it with these refs, and each crash since that moment left a sane disk
-- with them.
pub record IsOpened {F : Type 0} (view : F → Option View) (clock : F → ℕ) (was : F → ℕ → View → Type 0) (fs : F) (opened : ℕ) (refs : List (List ℕ × List ℕ)) : Type 0 where
  pub ascending : AreAscending refs
  pub past : opened ≤ clock fs
  pub opening : (w : View) → view fs ≡ Some w → IsOpening (first refs) w
  pub staging : (w : View) → view fs ≡ Some w → HasNoStages w.now
  pub left_over : (w : View) → view fs ≡ Some w → HasNoLeftOvers w.now
  pub bounded : (w : View) → view fs ≡ Some w → HasBoundedDeployments w.now
  pub since : (w : View) → view fs ≡ Some w → HasSince (Left (was fs)) opened (first refs)

-- where the view is told, these are the names of all objects
abbrev pub IsListed : {F : Type 0} → (F → Option View) → F → List ObjName → Type 0
IsListed view fs objects = (w : View) → view fs ≡ Some w → AreAll w.now objects

-- Where the view is told: what it keeps of objects, commits and refs is good, the configuration is there, and each disk that a crash left since
-- the first barrier is good, and opens again with these refs.
pub record KeepsGood {F : Type 0} (view : F → Option View) (was : F → ℕ → View → Type 0) (fs : F) (opened : ℕ) (limits : Limits) (refs : List (List ℕ × List ℕ)) : Type 0 where
  pub store : (w : View) → view fs ≡ Some w → IsGoodStore limits w.now
  pub config : (w : View) → view fs ≡ Some w → ShowsConfig (shows w.now config_path)
  pub since : (w : View) → view fs ≡ Some w → IsGoodSince (Left (was fs)) opened limits (first refs)

-- Where the view is told: these are the rows of the list that boots, and their deployments are whole; and so they are on each disk that a
-- crash left since the first barrier.
pub record KeepsRows {F : Type 0} (view : F → Option View) (was : F → ℕ → View → Type 0) (fs : F) (opened : ℕ) (limits : Limits) (rows : List BootRow) : Type 0 where
  pub now : (w : View) → view fs ≡ Some w → AreRowsOf w.now rows
  pub whole : (w : View) → view fs ≡ Some w → AreWhole limits w.now rows
  pub since : (w : View) → view fs ≡ Some w → (t : ℕ) (d : Disk) → opened ≤ t → Left (was fs) t d → AreRowsOf d rows
  pub whole_since : (w : View) → view fs ≡ Some w → (t : ℕ) (d : Disk) → opened ≤ t → Left (was fs) t d → AreWhole limits d rows

-- where the view is told, these are the names in the folder of checkouts
abbrev pub AreCheckouts : {F : Type 0} → (F → Option View) → F → List Name → Type 0
AreCheckouts view fs names = (w : View) → view fs ≡ Some w → IsListing w.now (folder_path Checkouts) names
