-- How many objects a disk has at least.
use Rattle.std.specs.Prelude.{◌≤◌, ℕ, List, length, Contains}
use Rattle.std.specs.List.Sorted.{IsStrictlySortedBy}
use Rattle.ost_types.specs.declared.limits.Limits.{Limits}
use Rattle.ost_types.specs.declared.object.ObjName.{ObjName}
use Rattle.fs_trait.specs.View.{Disk}
use Rattle.obj_store.specs.Listing.{name_cmp}
use Rattle.store_check.specs.Listing.{IsThere}

-- Different names, as many as that or more, at each of whose paths something stands.
pub record HasAsMany (d : Disk) (least : ℕ) : Type 0 where
  pub names : List ObjName
  pub ascending : IsStrictlySortedBy name_cmp names
  pub here : (name : ObjName) → Contains names name → IsThere d name
  pub enough : least ≤ length names

-- the store is full: it has as many objects as it may
abbrev pub IsFull : Limits → Disk → Type 0
IsFull limits d = HasAsMany d limits.objects
