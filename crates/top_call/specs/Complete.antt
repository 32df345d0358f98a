-- When every command has an answer of its own.
use Rattle.std.specs.Prelude.{◌≡◌, ◌⊎◌, ℕ, List, Option, Some, None}
use Rattle.ost_types.specs.declared.limits.Limits.{Limits}
use Rattle.fs_trait.specs.Count.{Rose}
use Rattle.fs_trait.specs.View.{Disk}
use Rattle.script.specs.Words.{IsCommand}
use Rattle.script.specs.declared.answer.Reply.{Reply}
use Rattle.script.specs.declared.command.Command.{Command}
use Rattle.script_reader.specs.Script.{Commands, IsScript}
use Rattle.sys_open.specs.Damages.{IsGood}
use Rattle.top_call.specs.declared.fault.TopFault.{TopFault}
use Rattle.top_call.specs.declared.fault.TopFault.TheVariants.{NoMemory}
use Rattle.commands.specs.Faults.{IsFailure, IsOutside}
use Rattle.commands.specs.Lanes.{IsReplyTo}
use Rattle.top_call.specs.Top.{AreStandard}
use Rattle.top_call.specs.Words.{HasFields, init, run}

-- a reply tells of a call that failed only where the count of failed calls rose
abbrev pub AreCausedBy : ℕ → ℕ → List (List Reply) → Type 0
AreCausedBy before now replies = (lane number : ℕ) (r : Reply) → IsReplyTo replies lane number r → IsFailure r.answer → Rose before now

-- The fields ask for something, and the script is one, where they are `run`.
abbrev pub Ask : Option (List ℕ) → List (List ℕ) → Type 0
Ask left fields =
    (fields ≡ init)
    ⊎ ((fields ≡ run) × (all : List ℕ) × (lanes : List Commands) × (left ≡ Some all) × IsScript all lanes)
    ⊎ ((command : Command) × IsCommand fields command)

-- the words are a command line whose fields do so
abbrev pub IsAsked : Option (List ℕ) → List (List ℕ) → Type 0
IsAsked left words = (fields : List (List ℕ)) × HasFields words fields × Ask left fields

-- the disk passes all checks of an opening, within the limits of the program
abbrev pub IsGoodHere : Disk → Type 0
IsGoodHere d = (limits : Limits) → AreStandard limits → IsGood limits d

-- No reply tells of a call that failed; there is no fault but want of memory; and the status tells no more than refusals and want of memory,
-- if no reply tells that something else changed the disk.
pub record IsComplete (fault : Option TopFault) (replies : List (List Reply)) (status : ℕ) : Type 0 where
  pub unfailed : (lane number : ℕ) (r : Reply) → IsReplyTo replies lane number r → ¬ (IsFailure r.answer)
  pub unfaulted : (fault ≡ None) ⊎ (fault ≡ Some NoMemory)
  pub status_is : ((lane number : ℕ) (r : Reply) → IsReplyTo replies lane number r → ¬ (IsOutside r.answer)) → (status ≡ 0) ⊎ (status ≡ 1) ⊎ (status ≡ 3)
