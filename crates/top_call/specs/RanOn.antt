-- What lanes leave that ran to their end on a repository that was opened.
use Rattle.std.specs.Prelude.{◌≡◌, ℕ, List, Option, Some}
use Rattle.fs_trait.specs.Image.{Told}
use Rattle.fs_trait.specs.View.{Disk, View}
use Rattle.repo_model.specs.Objects.{Stores}
use Rattle.rely_guarantee.specs.declared.books.Entry.{Entry}
use Rattle.rely_guarantee.specs.declared.books.Pending.{Pending}
use Rattle.rely_guarantee.specs.Headline as crashes
use Rattle.script.specs.declared.answer.Reply as script
use Rattle.durable_store.specs.Known.{KeepsKnown}
use Rattle.sys_open.specs.Opened.{Opened}
use Rattle.lane_system.specs.declared.lane.Reply.{Reply}
use Rattle.lane_system.specs.Booked.{IsReplied}
use Rattle.lane_system.specs.Causes.{AreCaused}
use Rattle.durable_list.specs.Standing.{ids_of}
use Rattle.lane_system.specs.Family.{FsSpec}
use Rattle.lane_system.specs.Booting.{BootsStill}
use Rattle.lane_system.specs.Known.{AreKnown}
use Rattle.lane_system.specs.Lanes.{IsTo}
use Rattle.lane_system.specs.Preserves.{Stands}
use Rattle.lane_system.specs.Ranks.{HasEnded}
use Rattle.lane_system.specs.Replies.{EndsBy}
use Rattle.lane_system.specs.Sweeping.{IsAllTold}
use Rattle.lane_system.specs.System.{System}
use Rattle.commands.specs.Family.{Answer, Task, Words, means, program}
use Rattle.commands.specs.Lanes.{replies_of, words_in}

-- A system of lanes with these commands, which have all ended, as it was taken apart: it began with what was opened, and all of it stands. What
-- is said of failed calls, and of what ended all commands, is so of any file system. If a disk held the objects of this one alone since the
-- opening, it holds at the end those and what commands brought; and what boots is what the history tells, by whole deployments.
pub record RanOn {F : Type 0} (f : FsSpec F) (opened : Opened F) (commands : List (List Words)) (fs : F) (history : List Entry) (pending : Option Pending) (replies : List (List script.Reply)) : Type 0 where
  pub system : System F Task Words Answer
  pub disk : fs ≡ system.base.fs
  pub changes : history ≡ system.base.books.history.items
  pub change : pending ≡ system.base.books.pending
  pub given : replies ≡ replies_of system.lanes
  pub words : words_in system.lanes ≡ commands
  pub start : system.base.books.start.refs.items ≡ opened.refs
  pub deployments : system.base.books.start.deployments.items ≡ ids_of opened.rows
  pub opening : system.base.books.opened ≡ opened.clock
  pub limits : system.limits ≡ opened.limits
  pub ended : HasEnded system
  pub headline : (w : View) → f.view system.base.fs ≡ Some w → crashes.Headline f.clock f.was system.base w
  pub replied : IsReplied f.view means system
  pub caused : AreCaused f.faults (f.faults opened.fs) system
  pub ends : (lane number : ℕ) (r : Reply Answer) → IsTo system.lanes lane number r → EndsBy system.base.books.halted (f.refused system.base.fs) (f.faults system.base.fs) r.answer
  pub swept : IsAllTold f.view system
  pub stands : (begun : View) → f.view opened.fs ≡ Some begun → Told (f.view system.base.fs) (λ w. Stands f program (f.faults opened.fs) begun system w)
  pub known : (d : Disk) (begun : View) → f.view opened.fs ≡ Some begun → KeepsKnown (f.was opened.fs) (Stores d) opened.clock begun → Told (f.view system.base.fs) (λ w. AreKnown f means d system w)
  pub boots : (begun : View) → f.view opened.fs ≡ Some begun → Told (f.view system.base.fs) (λ w. BootsStill f opened.rows system w)
