-- What a whole call tells of its words and of the disk, what it takes, and what it prints.
use Rattle.std.specs.Prelude.{◌≡◌, ◌≢◌, ◌⊎◌, ◌≤◌, ℕ, List, [], Option, Some, None, IfSome}
use Rattle.ost_types.specs.Path.{Path}
use Rattle.fs_trait.specs.View.{View, all_synced}
use Rattle.rely_guarantee.specs.declared.books.Entry.{Entry}
use Rattle.rely_guarantee.specs.declared.event.Event.{Event}
use Rattle.script.specs.declared.answer.Reply.{Reply}
use Rattle.script.specs.declared.fault.ScriptFault.{ScriptFault}
use Rattle.script_reader.specs.Script.{Commands, IsScript}
use Rattle.sys_open.specs.Changes.{Changes, Works}
use Rattle.sys_open.specs.declared.fault.OpenFault.{OpenFault}
use Rattle.top_call.specs.declared.fault.TopFault.{TopFault}
use Rattle.top_call.specs.declared.fault.TopFault.TheVariants.{Usage, Script, Input, Open, NoMemory}
use Rattle.top_call.specs.Complete.{AreCausedBy}
use Rattle.top_call.specs.Input.{TookFront}
use Rattle.top_call.specs.Text.{output_of}
use Rattle.top_call.specs.Top.{IsFaultBy, IsStopped, IsUnused, Prints, StaysOn}
use Rattle.top_call.specs.Words.{AreNoLine, IsEarly, IsLine, IsRefused, Runs}

-- lanes ran: there is no fault, or there are replies, for which there was no memory when they were to be printed
abbrev pub HasRun : Option TopFault → List (List Reply) → Type 0
HasRun fault replies = (fault ≡ None) ⊎ (replies ≢ [])

-- The fault, by the words and by an input that has this left and whose count was this before and is this now. Each yields to want of memory.
pub record TellsWords {F : Type 0} (left : Option (List ℕ)) (words : List (List ℕ)) (before now : ℕ) (fs end : F) (fault : Option TopFault) : Type 0 where
  pub usage : fault ≡ Some Usage → AreNoLine words
  pub no_line : AreNoLine words → (fault ≡ Some Usage) ⊎ (fault ≡ Some NoMemory)
  pub early : IfSome fault (λ f. IsEarly f → (end ≡ fs) × IsRefused left words before now f)
  pub script : (all : List ℕ) (lanes : List Commands) (e : ScriptFault) → left ≡ Some all → IsScript all lanes → fault ≢ Some (Script e)
  pub asked : (f : OpenFault) → fault ≡ Some (Open f) → (lanes : List Commands) × IsLine left words lanes

-- The fault, by the disk; what was done there where no lane ran; and that a failed call is told only where one failed.
pub record TellsDisk {F : Type 0} (view : F → Option View) (clock : F → ℕ) (was : F → ℕ → View → Type 0) (faults : F → ℕ) (refused : F → Option Path) (fs end : F) (fault : Option TopFault) (history : List Entry) (pending : Option Event) (replies : List (List Reply)) : Type 0 where
  pub by : IfSome fault (IsFaultBy (faults fs) (faults end) (refused end))
  pub stop : (v : View) → view fs ≡ Some v → IfSome fault (IsStopped v.now)
  pub still : (v : View) → view fs ≡ Some v → IfSome fault (λ f. StaysOn f (view end ≡ Some (all_synced v)))
  pub unused : HasRun fault replies ⊎ IsUnused history pending replies
  pub undone : (v : View) → view fs ≡ Some v → HasRun fault replies ⊎ Works (Changes v.now) v (clock fs) (clock end) (was fs) (was end) (view end)
  pub caused : AreCausedBy (faults fs) (faults end) replies

-- What is taken of an input. Only `run` reads; and no lane runs where a call of the source failed, which is told.
pub record TakesInput {S : Type 0} (left : S → Option (List ℕ)) (faults : S → ℕ) (words : List (List ℕ)) (before now : S) (fault : Option TopFault) (replies : List (List Reply)) : Type 0 where
  pub read : (all : List ℕ) → left before ≡ Some all → TookFront all (left now)
  pub unread : ¬ (Runs words) → now ≡ before
  pub source_count : faults before ≤ faults now
  pub quiet : HasRun fault replies → faults now ≡ faults before
  pub failed : (fault ≡ Some Input) ⊎ (fault ≡ Some NoMemory) ⊎ (faults now ≡ faults before)

-- What a sink takes: the line of the fault or the lines of the replies.
pub record GivesOutput {K : Type 0} (taken : K → Option (List ℕ)) (faults : K → ℕ) (before now : K) (fault : Option TopFault) (replies : List (List Reply)) : Type 0 where
  pub output : (had : List ℕ) → taken before ≡ Some had → Prints had (output_of fault replies) (faults before) (faults now) (taken now)
  pub sink_count : faults before ≤ faults now
