-- What the commands of the lanes bring into the store, and that it goes on to be good.
use Rattle.std.specs.Prelude.{◌≡◌, ◌⊎◌, ◌<◌, ◌≤◌, ◌+◌, ◌^◌, ℕ, List, length, None}
use Rattle.ost_types.specs.declared.limits.Limits.{Limits}
use Rattle.ost_types.specs.declared.object.ObjName.{ObjName}
use Rattle.fs_trait.specs.Seen.{Seen, Vacant}
use Rattle.fs_trait.specs.View.{View}
use Rattle.repo_model.specs.Objects.{Store}
use Rattle.rely_guarantee.specs.declared.books.Entry.{Entry}
use Rattle.rely_guarantee.specs.State.{SystemState, opening_state}
use Rattle.sys_open.specs.Damages.{ShowsConfig}
use Rattle.durable_store.specs.Keeping.{KeepsGood}
use Rattle.command.specs.Meaning.{Meaning}
use Rattle.command.specs.Removed.{AreAmong}
use Rattle.command.specs.Since.{begun_in}
use Rattle.lane_system.specs.declared.lane.Lane.{Lane}
use Rattle.lane_system.specs.declared.lane.Reply.{Reply}
use Rattle.lane_system.specs.declared.lane.Running.{Running}
use Rattle.lane_system.specs.Family.{FsSpec}
use Rattle.lane_system.specs.Lanes.{IsCommand, IsRunning, IsTo}
use Rattle.lane_system.specs.Removals.{swept_in}
use Rattle.lane_system.specs.States.{state_after}
use Rattle.lane_system.specs.System.{System}

-- A command of the lanes began when the history had so many changes: it has a reply that says so, or runs.
abbrev pub HasBegun : {T W A : Type 0} → List (Lane T W A) → ℕ → ℕ → ℕ → Type 0
HasBegun {T} {W} {A} lanes lane number start =
    ((r : Reply A) × IsTo lanes lane number r × (r.start ≡ start))
    ⊎ ((r : Running T) × IsRunning lanes lane number r × (r.start ≡ start))

-- These bytes are among those that a command of the lanes brings under the name, which began.
pub record IsBroughtIn {T W A : Type 0} (m : Meaning W A) (limits : Limits) (begin : SystemState) (entries : List Entry) (lanes : List (Lane T W A)) (name : ObjName) (bytes : List ℕ) : Type 0 where
  pub lane : ℕ
  pub number : ℕ
  pub command : W
  pub is : IsCommand lanes lane number command
  pub start : ℕ
  pub begun : HasBegun lanes lane number start
  pub brings : m.brings (begun_in limits (state_after begin entries start)) command name bytes

-- so of a system
abbrev pub WasBrought : {F T W A : Type 0} → Meaning W A → System F T W A → Store
WasBrought m s = IsBroughtIn m s.limits (opening_state s.base.books.start) s.base.books.history.items s.lanes

-- of the configuration: there is none, or one that is
abbrev pub IsConfigured : Seen → Type 0
IsConfigured s = (s ≡ Vacant) ⊎ ShowsConfig s

-- The store stands in the view now, with the names of its objects, and each disk that a crash left since the opening has it good, over what
-- the commands brought that began. While commands go on there are no more names than were counted, which 32 bits can tell.
pub record AreStored {F T W A : Type 0} (f : FsSpec F) (m : Meaning W A) (s : System F T W A) (v : View) : Type 0 where
  pub names : List ObjName
  pub counted : s.base.books.halted ≡ None → length names ≤ s.objects + length (swept_in s.base.books)
  pub swept : s.base.books.halted ≡ None → AreAmong (swept_in s.base.books) names
  pub narrow : s.limits.objects < 2 ^ 32
  pub keeps : KeepsGood (f.was s.base.fs) s.limits (WasBrought m s) IsConfigured names s.base.books.opened v
