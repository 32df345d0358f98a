-- Which bytes a disk ever holds under names of objects.
use Rattle.fs_trait.specs.View.{Disk, View}
use Rattle.durable_store.specs.Known.{KeepsKnown, KnownBytes}
use Rattle.command.specs.Meaning.{Meaning}
use Rattle.lane_system.specs.Family.{FsSpec}
use Rattle.lane_system.specs.Storing.{WasBrought}
use Rattle.lane_system.specs.System.{System}

-- Since the opening they are those of the objects of this disk, and those that commands bring which began.
abbrev pub AreKnown : {F T W A : Type 0} → FsSpec F → Meaning W A → Disk → System F T W A → View → Type 0
AreKnown f m opening s v = KeepsKnown (f.was s.base.fs) (KnownBytes opening (WasBrought m s)) s.base.books.opened v
