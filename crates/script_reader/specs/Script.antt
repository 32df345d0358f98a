-- A script: how its lines follow one another, and what is wrong with the first that can't stand where it does.
use Rattle.std.specs.Prelude.{◌≡◌, ◌≢◌, ◌+◌, ◌<◌, ◌≤◌, ◌^◌, ◌⊎◌, ℕ, List, [], ◌∷◌, ◌++◌, length, codes}
use Rattle.std.specs.declared.cmp.Ordering.TheVariants.{Less}
use Rattle.ost_types.specs.Path.{path_cmp}
use Rattle.ost_forms.specs.declared.tree_item.TreeItem.{TreeItem}
use Rattle.script.specs.Field.{IsNumber}
use Rattle.script.specs.Words.{IsWritten, Resolves, IsUnknown}
use Rattle.script.specs.declared.command.Command.{Command}
use Rattle.script.specs.declared.command.Written.{Written}
use Rattle.script.specs.declared.fault.ScriptFault.{ScriptFault}
use Rattle.script.specs.declared.fault.ScriptFault.TheVariants.{BadLine, TooLong, TooManyLanes, TooManyCommands, UnknownTree, NoMemory}
use Rattle.script_reader.specs.Values.{pieces}
use Rattle.script_reader.specs.Nodes.{fields_of, IsNode}

abbrev pub Tree : Type 0
Tree = List TreeItem

abbrev pub Commands : Type 0
Commands = List Command

-- the most bytes of a script, the most lanes, and the most commands of a lane
abbrev pub script_limit : ℕ
script_limit = 4194304

abbrev pub lane_limit : ℕ
lane_limit = 8

abbrev pub command_limit : ℕ
command_limit = 64

-- what some lines have said: the trees and the lanes that are complete, and the section that is open
pub data State : Type 0 where
  start : State
  between : List Tree → List Commands → State
  in_tree : List Tree → List Commands → Tree → State
  in_lane : List Tree → List Commands → Commands → State

-- the first line
abbrev pub header : List ℕ
header = codes "ostree-script 1"

-- a tree begins by its number, which counts the trees before it
abbrev pub OpensTree : ℕ → List ℕ → Type 0
OpensTree n line = (field : List ℕ) × (fields_of line ≡ codes "tree" ∷ field ∷ []) × IsNumber (2 ^ 32) field n

-- the node before it has a lesser path
abbrev pub Ascends : Tree → TreeItem → Type 0
Ascends items item = (before : Tree) (last : TreeItem) → items ≡ before ++ last ∷ [] → path_cmp last.path item.path ≡ Less

-- the next node of a tree
abbrev pub IsNextNode : Tree → List ℕ → TreeItem → Type 0
IsNextNode items line item = IsNode line item × Ascends items item

-- a command, whose tree is one of these
abbrev pub IsCommandLine : List Tree → List ℕ → Command → Type 0
IsCommandLine trees line command = (written : Written) × IsWritten (fields_of line) written × Resolves trees written command

-- what the lines have said when one more has
abbrev pub Leads : State → List ℕ → State → Type 0
Leads start line s = (line ≡ header) × (s ≡ between [] [])
Leads (between trees lanes) line s =
    (OpensTree (length trees) line × (s ≡ in_tree trees lanes []))
    ⊎ ((line ≡ codes "lane") × (length lanes < lane_limit) × (s ≡ in_lane trees lanes []))
Leads (in_tree trees lanes items) line s =
    ((line ≡ codes "end") × (s ≡ between (trees ++ items ∷ []) lanes))
    ⊎ ((item : TreeItem) × IsNextNode items line item × (s ≡ in_tree trees lanes (items ++ item ∷ [])))
Leads (in_lane trees lanes commands) line s =
    ((line ≡ codes "end") × (s ≡ between trees (lanes ++ commands ∷ [])))
    ⊎ ((command : Command) × (length commands < command_limit) × IsCommandLine trees line command × (s ≡ in_lane trees lanes (commands ++ command ∷ [])))

-- the same of some lines
abbrev pub Says : State → List (List ℕ) → State → Type 0
Says s [] t = s ≡ t
Says s (line ∷ lines) t = (u : State) × Leads s line u × Says u lines t

-- what stands before each newline (10), and behind the last
abbrev pub lines_of : List ℕ → List (List ℕ)
lines_of bytes = pieces 10 bytes

-- a script, whose lanes have these commands: each line ends with a newline, and no section is open at the end
pub record IsScript (bytes : List ℕ) (lanes : List Commands) : Type 0 where
  pub few : length bytes ≤ script_limit
  pub lines : List (List ℕ)
  pub text : lines_of bytes ≡ lines ++ [] ∷ []
  pub trees : List Tree
  pub says : Says start lines (between trees lanes)

-- the line isn't of the form that its place asks
abbrev pub IsBadLine : State → List ℕ → Type 0
IsBadLine start line = line ≢ header
IsBadLine (between trees lanes) line = ¬ (OpensTree (length trees) line) × (line ≢ codes "lane")
IsBadLine (in_tree trees lanes items) line = (line ≢ codes "end") × ((item : TreeItem) → ¬ (IsNextNode items line item))
IsBadLine (in_lane trees lanes commands) line = (line ≢ codes "end") × ((written : Written) → ¬ (IsWritten (fields_of line) written))

-- why a command that is written can't be run behind so many trees
abbrev pub RefusesTree : ℕ → Written → ScriptFault → Type 0
RefusesTree count written (UnknownTree t) = IsUnknown count written t
RefusesTree count written NoMemory = Unit {0}
RefusesTree count written e = ⊥

-- why the line with this number can't stand behind what the lines before it have said
abbrev pub Refuses : State → List ℕ → ℕ → ScriptFault → Type 0
Refuses s line n (BadLine m) = (m ≡ n) × IsBadLine s line
Refuses (between trees lanes) line n TooManyLanes = (line ≡ codes "lane") × (lane_limit ≤ length lanes)
Refuses (in_lane trees lanes commands) line n TooManyCommands = (command_limit ≤ length commands) × (written : Written) × IsWritten (fields_of line) written
Refuses (in_lane trees lanes commands) line n (UnknownTree t) =
    (length commands < command_limit) × (written : Written) × IsWritten (fields_of line) written × IsUnknown (length trees) written t
Refuses s line n NoMemory = Unit {0}
Refuses s line n e = ⊥

-- what stands behind the last newline is bad, but nothing where no section is open
abbrev pub EndsBadly : State → List ℕ → Type 0
EndsBadly (between trees lanes) rest = rest ≢ []
EndsBadly start rest = Unit {0}
EndsBadly (in_tree trees lanes items) rest = Unit {0}
EndsBadly (in_lane trees lanes commands) rest = Unit {0}

-- the lines up to the first that is wrong, and those behind it
pub record FirstFault (bytes : List ℕ) (e : ScriptFault) : Type 0 where
  pub few : length bytes ≤ script_limit
  pub before : List (List ℕ)
  pub line : List ℕ
  pub after : List (List ℕ)
  pub text : lines_of bytes ≡ before ++ line ∷ after
  pub state : State
  pub says : Says start before state
  pub wrong : ((after ≡ []) × EndsBadly state line × (e ≡ BadLine (length before + 1)))
      ⊎ ((after ≢ []) × Refuses state line (length before + 1) e)

-- why bytes are no script: they are too many, or by the first line that is wrong
abbrev pub IsFault : List ℕ → ScriptFault → Type 0
IsFault bytes TooLong = script_limit < length bytes
IsFault bytes NoMemory = Unit {0}
IsFault bytes (BadLine n) = FirstFault bytes (BadLine n)
IsFault bytes TooManyLanes = FirstFault bytes TooManyLanes
IsFault bytes TooManyCommands = FirstFault bytes TooManyCommands
IsFault bytes (UnknownTree t) = FirstFault bytes (UnknownTree t)
