-- The command line: options, and `init` or `run` alone, or a command and its fields.
use Rattle.std.specs.Prelude.{◌≡◌, ◌≢◌, ◌⊎◌, ℕ, List, [], ◌∷◌, codes, map, take, unwrap_or, Option, Some, Ok}
use Rattle.command_line.specs.Words.{Says}
use Rattle.fs_trait.specs.Count.{Rose}
use Rattle.schedule.specs.declared.turns.Turns.{Turns}
use Rattle.script.specs.Words.{IsCommand, ReadsWords}
use Rattle.script.specs.declared.command.Command.{Command}
use Rattle.script.specs.declared.command.Lane.{Lane}
use Rattle.script.specs.declared.fault.ScriptFault.TheVariants as script
use Rattle.script_reader.specs.Script.{Commands, IsFault, IsScript}
use Rattle.top_call.specs.declared.fault.TopFault.{TopFault}
use Rattle.top_call.specs.declared.fault.TopFault.TheVariants.{Usage, Script, Input, Open, NoMemory}
use Rattle.top_call.specs.declared.words.Request.{Request}
use Rattle.top_call.specs.declared.words.Request.TheVariants as request
use Rattle.top_call.specs.Input.{input_limit}

-- the command and its fields that the words have, whatever the options say
abbrev pub HasFields : List (List ℕ) → List (List ℕ) → Type 0
HasFields words fields = (count : ℕ) × (turns : Option (List Turns)) × Says words count turns fields

-- the schedule that the words say; it is empty where they say none
abbrev pub HasSchedule : List (List ℕ) → List Turns → Type 0
HasSchedule words schedule = (count : ℕ) × (turns : Option (List Turns)) × (fields : List (List ℕ)) × Says words count turns fields × (schedule ≡ unwrap_or turns [])

abbrev pub init : List (List ℕ)
init = codes "init" ∷ []

abbrev pub run : List (List ℕ)
run = codes "run" ∷ []

abbrev pub commands_of : List Lane → List Commands
commands_of lanes = map (λ lane. lane.commands.items) lanes

-- the words of no such command
abbrev pub AreNoLone : List (List ℕ) → Type 0
AreNoLone words = (command : Command) → ¬ (IsCommand words command)

-- what the words alone say
abbrev pub IsRequest : List (List ℕ) → Request → Type 0
IsRequest words (request.Lanes lanes) = ((words ≡ init) × (commands_of lanes.items ≡ [])) ⊎ ReadsWords words (Ok (commands_of lanes.items))
IsRequest words request.Script = words ≡ run

-- the fields of nothing that may be asked for
abbrev pub AreNoRequest : List (List ℕ) → Type 0
AreNoRequest fields = (fields ≢ init) × (fields ≢ run) × AreNoLone fields

-- no command line: the words aren't in the grammar, or their fields ask for nothing
abbrev pub AreNoLine : List (List ℕ) → Type 0
AreNoLine words = (fields : List (List ℕ)) → HasFields words fields → AreNoRequest fields

-- they ask for the lanes of the input
abbrev pub Runs : List (List ℕ) → Type 0
Runs words = HasFields words run

-- These are read of an input. Of one that tells what it has they are all, or the first so many bytes.
abbrev pub Heard : Option (List ℕ) → List ℕ → Type 0
Heard left bytes = (all : List ℕ) → left ≡ Some all → bytes ≡ take input_limit all

-- the input is a script with these lanes
abbrev pub HasScript : Option (List ℕ) → List Commands → Type 0
HasScript left lanes = (bytes : List ℕ) × Heard left bytes × IsScript bytes lanes

-- The lanes that fields ask for: none of `init`, which only opens; those of the script of `run`; else one lane with the one command.
abbrev pub AskFor : Option (List ℕ) → List (List ℕ) → List Commands → Type 0
AskFor left fields lanes =
    ((fields ≡ init) × (lanes ≡ []))
    ⊎ ((fields ≡ run) × HasScript left lanes)
    ⊎ ReadsWords fields (Ok lanes)

-- the lanes of a command line
abbrev pub IsLine : Option (List ℕ) → List (List ℕ) → List Commands → Type 0
IsLine left words lanes = (fields : List (List ℕ)) × HasFields words fields × AskFor left fields lanes

-- why bytes give no lanes
abbrev pub IsUnread : List ℕ → TopFault → Type 0
IsUnread bytes Usage = ⊥
IsUnread bytes (Script e) = (e ≢ script.NoMemory) × IsFault bytes e
IsUnread bytes Input = ⊥
IsUnread bytes (Open fault) = ⊥
IsUnread bytes NoMemory = Unit {0}

-- Why an input gives none: what was read of it gives none, or a call of the source failed. Its count was this before, and is this now.
abbrev pub IsMisread : Option (List ℕ) → ℕ → ℕ → TopFault → Type 0
IsMisread left before now Usage = ⊥
IsMisread left before now (Script e) = (bytes : List ℕ) × Heard left bytes × IsUnread bytes (Script e)
IsMisread left before now Input = Rose before now
IsMisread left before now (Open fault) = ⊥
IsMisread left before now NoMemory = Unit {0}

-- why fields and the input give none
abbrev pub AreRefused : Option (List ℕ) → List (List ℕ) → ℕ → ℕ → TopFault → Type 0
AreRefused left fields before now Usage = AreNoRequest fields
AreRefused left fields before now (Script e) = (fields ≡ run) × IsMisread left before now (Script e)
AreRefused left fields before now Input = (fields ≡ run) × IsMisread left before now Input
AreRefused left fields before now (Open fault) = ⊥
AreRefused left fields before now NoMemory = Unit {0}

-- why the words and the input give none
abbrev pub IsRefused : Option (List ℕ) → List (List ℕ) → ℕ → ℕ → TopFault → Type 0
IsRefused left words before now Usage = AreNoLine words
IsRefused left words before now (Script e) = Runs words × IsMisread left before now (Script e)
IsRefused left words before now Input = Runs words × IsMisread left before now Input
IsRefused left words before now (Open fault) = ⊥
IsRefused left words before now NoMemory = Unit {0}

-- a fault of the words or of the input, told before the repository is looked at
abbrev pub IsEarly : TopFault → Type 0
IsEarly Usage = Unit {0}
IsEarly (Script e) = Unit {0}
IsEarly Input = Unit {0}
IsEarly (Open fault) = ⊥
IsEarly NoMemory = ⊥
