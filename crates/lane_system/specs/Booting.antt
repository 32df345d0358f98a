-- Which deployments boot, and that each crash leaves the refs and the list of one moment.
use Rattle.std.specs.Prelude.{◌≡◌, ◌≤◌, ℕ, List, Contains, Option, Some, None}
use Rattle.ost_types.specs.declared.limits.Limits.{Limits}
use Rattle.fs_trait.specs.View.{Disk, View}
use Rattle.fs_trait.specs.Change.{Left}
use Rattle.boot_model.specs.declared.item.DepId.{DepId}
use Rattle.boot_read.specs.declared.row.BootRow.{BootRow}
use Rattle.boot_read.specs.Rows.{AreRowsOf}
use Rattle.rely_guarantee.specs.declared.books.Books as rust
use Rattle.rely_guarantee.specs.declared.books.Entry.{Entry}
use Rattle.rely_guarantee.specs.declared.event.Event.{Event}
use Rattle.rely_guarantee.specs.State.{SystemState, after, events_of, list_in, opening_state, stored}
use Rattle.rely_guarantee.specs.SystemInvariant.{Fits}
use Rattle.durable_list.specs.Standing.{KeepsList, ids_of}
use Rattle.durable_deployments.specs.Bounds.{AreBounded}
use Rattle.durable_deployments.specs.Standing.{AreWhole, KeepsDeployments}
use Rattle.command.specs.MayBoot.{Boots, BootsEither, coming_of}
use Rattle.sys_open.specs.LeftOver.{CanGo}
use Rattle.lane_system.specs.Family.{FsSpec}
use Rattle.lane_system.specs.System.{System}
use Rattle.ost_types.specs.Path.{Path}

-- no change among these is one of the list of deployments
abbrev pub AreUnlisted : List Event → Type 0
AreUnlisted events = (e : Event) → Contains events e → list_in e ≡ None

-- The rows are those of the list that boots behind these changes: the rows of the opening, as long as no other list came.
pub record AreRowsBehind (opening : List BootRow) (start : SystemState) (events : List Event) (rows : List BootRow) : Type 0 where
  pub listed : (after events start).deployments ≡ ids_of rows
  pub same : AreUnlisted events → rows ≡ opening

-- The list behind the changes boots,
pub record BootsOne (limits : Limits) (opening : List BootRow) (start : SystemState) (events : List Event) (v : View) : Type 0 where
  pub rows : List BootRow
  pub are : AreRowsBehind opening start events rows
  pub boots : Boots limits rows v

-- or while these deployments are published one of the two.
pub record BootsOneOrOther (limits : Limits) (opening : List BootRow) (start : SystemState) (events : List Event) (ids : List DepId) (v : View) : Type 0 where
  pub before : List BootRow
  pub after : List BootRow
  pub are : AreRowsBehind opening start events before
  pub come : ids ≡ ids_of after
  pub boots : BootsEither limits before after v

abbrev pub MayBootBy : Limits → List BootRow → SystemState → List Event → Option (List DepId) → View → Type 0
MayBootBy limits opening start events None v = BootsOne limits opening start events v
MayBootBy limits opening start events (Some ids) v = BootsOneOrOther limits opening start events ids v

-- What may boot, by the books.
abbrev pub MayBootNow : Limits → List BootRow → rust.Books → View → Type 0
MayBootNow limits opening b v = MayBootBy limits opening (opening_state b.start) (events_of b.history.items) (coming_of b.pending) v

-- The disk is sane, and its refs and its list are those behind one prefix of the stored history that has all that was acknowledged by then;
-- each deployment of the list is whole.
pub record FitsWithList (limits : Limits) (opening : List BootRow) (start : SystemState) (entries : List Entry) (all : List Event) (t : ℕ) (d : Disk) : Type 0 where
  pub fits : Fits start entries all t d
  pub rows : List BootRow
  pub are : AreRowsOf d rows
  pub listed : AreRowsBehind opening start fits.past rows
  pub whole : AreWhole limits d rows

-- What stands where deployments and what boots them may, or what is staged for a list, is within the bounds of paths, whatever a crash leaves;
-- and from each disk that a crash left at this moment or later an opening can remove what stands there.
pub record KeepsClear (was : ℕ → View → Type 0) (moment : ℕ) (v : View) : Type 0 where
  pub bounded : AreBounded v
  pub since : (t : ℕ) (d : Disk) → moment ≤ t → Left was t d → (p : Path) → CanGo d p

-- These are the rows of the list in the view now, and each disk that a crash left at this moment or later has them; their deployments are
-- whole, now and on each such disk; and what stands where deployments may can be removed once no list boots it.
pub record KeepsBoots (was : ℕ → View → Type 0) (limits : Limits) (rows : List BootRow) (moment : ℕ) (v : View) : Type 0 where
  pub list : KeepsList was rows moment v
  pub deployments : KeepsDeployments was limits rows moment v
  pub left_over : KeepsClear was moment v

-- The rows were those of the system's deployments at its beginning. What boots is what the books tell, and each crash since leaves the refs and
-- the list of one moment; what stands where deployments may can be removed once no list boots it.
pub record BootsStill {F T W A : Type 0} (f : FsSpec F) (opening : List BootRow) (s : System F T W A) (v : View) : Type 0 where
  pub listed : s.base.books.start.deployments.items ≡ ids_of opening
  pub now : MayBootNow s.limits opening s.base.books v
  pub since : (t : ℕ) (d : Disk) → s.base.books.opened ≤ t → Left (f.was s.base.fs) t d → FitsWithList s.limits opening (opening_state s.base.books.start) s.base.books.history.items (stored s.base.books.history.items s.base.books.pending) t d
  pub left_over : KeepsClear (f.was s.base.fs) s.base.books.opened v
