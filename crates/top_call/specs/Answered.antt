-- What a run of lanes answers, whether or not the file system tells what it holds.
use Rattle.std.specs.Prelude.{◌≡◌, ℕ, List, Option, length, map}
use Rattle.ost_types.specs.declared.limits.Limits.{Limits}
use Rattle.ost_types.specs.Path.{Path}
use Rattle.fs_trait.specs.View.{View}
use Rattle.rely_guarantee.specs.declared.books.Entry.{Entry}
use Rattle.rely_guarantee.specs.declared.books.Pending.{Pending}
use Rattle.rely_guarantee.specs.declared.event.Event.{Event}
use Rattle.rely_guarantee.specs.declared.kind.Halt.{Halt}
use Rattle.rely_guarantee.specs.State.{SystemState}
use Rattle.script.specs.declared.answer.Reply.{Reply}
use Rattle.script.specs.declared.command.Command.{Command}
use Rattle.lane_system.specs.Lanes.{IsTo}
use Rattle.lane_system.specs.Replied.{Replied}
use Rattle.lane_system.specs.Replies.{EndsBy, IsTold}
use Rattle.commands.specs.Family as own
use Rattle.commands.specs.Family.{Lane, means}
use Rattle.commands.specs.Lanes.{replies_of, words_in}
use Rattle.commands.specs.Words.{words_of}
use Rattle.top_call.specs.Top.{AreStandard, event_of}
use Rattle.top_call.specs.Words.{IsLine}

-- The lanes have these commands, as words of their families, and these replies, as answers of theirs; and each command has its reply. Each
-- reply is by its command and by the states that the changes make of the refs at the opening, and each change is one command's. What ended
-- all commands is what each reply says that tells so: a call that failed, by the count of such calls at the end, or one that was refused for
-- what stands at its path, by the path that the file system remembers.
pub record Answered {F : Type 0} (limits : Limits) (view : F → Option View) (faults : F → ℕ) (refused : F → Option Path) (commands : List (List Command)) (fs : F) (history : List Entry) (pending : Option Event) (replies : List (List Reply)) : Type 0 where
  pub start : SystemState
  pub lanes : List Lane
  pub each : words_in lanes ≡ map (λ row. map words_of row) commands
  pub given : replies_of lanes ≡ replies
  pub by : Option Pending
  pub shown : pending ≡ event_of by
  pub replied : Replied (IsTold view) means limits start history by lanes
  pub ended : map (λ row. length row) replies ≡ map (λ row. length row) commands
  pub halted : Option Halt
  pub ends : (lane number : ℕ) (r : own.Reply) → IsTo lanes lane number r → EndsBy halted (refused fs) (faults fs) r.answer

-- so, of lanes that these words ask for, where an input has this left
abbrev pub AnsweredBy : {F : Type 0} → Option (List ℕ) → List (List ℕ) → (F → Option View) → (F → ℕ) → (F → Option Path) → F → List Entry → Option Event → List (List Reply) → Type 0
AnsweredBy left words view faults refused fs history pending replies = (limits : Limits) × (commands : List (List Command)) × AreStandard limits × IsLine left words commands × Answered limits view faults refused commands fs history pending replies
