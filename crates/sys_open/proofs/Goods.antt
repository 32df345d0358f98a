-- A good disk, by what is asked of its layout, its configuration and its store.
use Rattle.std.proofs.Common.{◌≡◌, List, Ok, subst}
use Rattle.ost_types.specs.declared.limits.Limits.{Limits}
use Rattle.ost_types.specs.Path.{Path}
use Rattle.fs_trait.specs.View.{Disk}
use Rattle.layout_rules.specs.Checks as rules
use Rattle.layout_rules.specs.Checks.{IsSane}
use Rattle.boot_read.specs.declared.row.BootRow.{BootRow}
use Rattle.boot_read.specs.Rows.{AreRowsOf}
use Rattle.boot_read.proofs.Answered.{answered_once}
use Rattle.durable_deployments.specs.Standing.{AreWhole}
use Rattle.store_check.specs.Good.{IsGoodStore}
use Rattle.sys_open.specs.LeftOver.{CanGo}
use Rattle.sys_open.specs.Damages.{Places, Config, RefFiles, Objects, Commits, BootList, Deployments, Staging, BootsList, BootsWhole, HasConfig, IsGood}

-- there is one list
pub whole_rows : (limits : Limits) (d : Disk) (rows : List BootRow) → AreRowsOf d rows → AreWhole limits d rows → BootsWhole limits d
whole_rows limits d rows are whole others read =
    let same : Ok rows ≡ Ok others = answered_once d (Ok rows) (Ok others) tt tt are read in
    subst (AreWhole limits d) (let e : rows ≡ others = cc in e) whole

pub good_of : (limits : Limits) (d : Disk) → IsSane d → HasConfig d → IsGoodStore limits d → (rows : List BootRow) → AreRowsOf d rows → AreWhole limits d rows → ((p : Path) → CanGo d p) → IsGood limits d
good_of limits d sane config store rows are whole can_go Places = sane rules.Kinds
good_of limits d sane config store rows are whole can_go Config = config
good_of limits d sane config store rows are whole can_go RefFiles = sane rules.RefFiles
good_of limits d sane config store rows are whole can_go Objects = (store.few, store.sound)
good_of limits d sane config store rows are whole can_go Commits = (store.whole, store.founded)
good_of limits d sane config store rows are whole can_go BootList = (rows, are)
good_of limits d sane config store rows are whole can_go Deployments = whole_rows limits d rows are whole
good_of limits d sane config store rows are whole can_go Staging = λ p. (sane rules.Staging p, can_go p)

pub sane_of : (limits : Limits) (d : Disk) → IsGood limits d → IsSane d
sane_of limits d good rules.Kinds = good Places
sane_of limits d good rules.RefFiles = good RefFiles
sane_of limits d good rules.Staging = λ p. (good Staging p).0

pub config_of : (limits : Limits) (d : Disk) → IsGood limits d → HasConfig d
config_of limits d good = good Config

pub can_go_of : (limits : Limits) (d : Disk) → IsGood limits d → (p : Path) → CanGo d p
can_go_of limits d good p = (good Staging p).1

pub list_of : (limits : Limits) (d : Disk) → IsGood limits d → BootsList d
list_of limits d good = good BootList

pub deployments_of : (limits : Limits) (d : Disk) → IsGood limits d → BootsWhole limits d
deployments_of limits d good = good Deployments

pub store_of : (limits : Limits) (d : Disk) → IsGood limits d → IsGoodStore limits d
store_of limits d good = record { sound = (good Objects).1; few = (good Objects).0; whole = (good Commits).0; founded = (good Commits).1 }
