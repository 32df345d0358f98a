-- What stands of a store.
use Rattle.ost_types.specs.declared.limits.Limits.{Limits}
use Rattle.ost_types.specs.declared.object.ObjName.{ObjName}
use Rattle.fs_trait.specs.View.{Disk}
use Rattle.store_check.specs.Objects.{IsSound}

-- Each object that stands is what its name says, and reads as its kind within the limits.
abbrev pub IsSoundStore : Limits → Disk → Type 0
IsSoundStore limits d = (name : ObjName) → IsSound d limits.content name
