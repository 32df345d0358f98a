-- What the program prints.
use Rattle.std.specs.Prelude.{ℕ, List, [], ◌∷◌, ◌++◌, codes, Option, Some, None}
use Rattle.std.specs.Fmt.{decimal}
use Rattle.ost_types.specs.Path.{text_of}
use Rattle.script.specs.Field.{escaped}
use Rattle.script.specs.Lines.{replies_text}
use Rattle.script.specs.declared.answer.Reply.{Reply}
use Rattle.script.specs.declared.fault.ScriptFault.{ScriptFault}
use Rattle.script.specs.declared.fault.ScriptFault.TheVariants.{BadLine, TooLong, TooManyLanes, TooManyCommands, UnknownTree}
use Rattle.script.specs.declared.fault.ScriptFault.TheVariants as script
use Rattle.sys_open.specs.declared.fault.OpenFault.TheVariants.{Damaged, Disk, Outside}
use Rattle.sys_open.specs.declared.fault.OpenFault.TheVariants as opening
use Rattle.top_call.specs.Whys.{why_end}
use Rattle.top_call.specs.declared.fault.TopFault.{TopFault}
use Rattle.top_call.specs.declared.fault.TopFault.TheVariants.{Usage, Script, Input, Open, NoMemory}

-- the line of a fault of a script, with its number, where it has one; want of memory is never told as one
abbrev pub script_line : ScriptFault → List ℕ
script_line (BadLine n) = codes "fault script BadLine " ++ (decimal n ++ 10 ∷ [])
script_line TooLong = codes "fault script TooLong\n"
script_line TooManyLanes = codes "fault script TooManyLanes\n"
script_line TooManyCommands = codes "fault script TooManyCommands\n"
script_line (UnknownTree n) = codes "fault script UnknownTree " ++ (decimal n ++ 10 ∷ [])
script_line script.NoMemory = codes "fault memory\n"

-- the one line of a fault before the lanes
abbrev pub fault_line : TopFault → List ℕ
fault_line Usage = codes "fault usage\n"
fault_line (Script e) = script_line e
fault_line Input = codes "fault input\n"
fault_line NoMemory = codes "fault memory\n"
fault_line (Open opening.NoMemory) = codes "fault memory\n"
fault_line (Open Disk) = codes "fault open Disk\n"
fault_line (Open (Damaged path why)) = codes "fault open Damaged " ++ (escaped (text_of path) ++ why_end why)
fault_line (Open (Outside path)) = codes "fault open Outside " ++ (escaped (text_of path) ++ 10 ∷ [])

-- all that is printed
abbrev pub output_of : Option TopFault → List (List Reply) → List ℕ
output_of (Some fault) lanes = fault_line fault
output_of None lanes = replies_text lanes
