-- The exit status: the greatest whose row applies.
use Rattle.std.specs.Prelude.{◌==◌, ◌||◌, nat_lt, max, map, ℕ, Bool, List, [], ◌∷◌, Option, Some, None, if◌then◌else◌}
use Rattle.fs_trait.specs.Count.{last}
use Rattle.script.specs.declared.answer.Answer.{Answer}
use Rattle.script.specs.declared.answer.Answer.TheVariants as answer
use Rattle.script.specs.declared.answer.Reply.{Reply}
use Rattle.sys_open.specs.declared.fault.OpenFault.TheVariants.{Damaged, Disk, Outside}
use Rattle.sys_open.specs.declared.fault.OpenFault.TheVariants as opening
use Rattle.top_call.specs.declared.fault.TopFault.{TopFault}
use Rattle.script.specs.declared.fault.ScriptFault.TheVariants as script
use Rattle.top_call.specs.declared.fault.TopFault.TheVariants.{Usage, Script, Input, Open, NoMemory}

-- a count rose, or stands at its last value
abbrev pub has_risen : ℕ → ℕ → Bool
has_risen before now = nat_lt before now || (now == last)

-- the status of an answer alone: 1 of a refusal, 3 of want of memory, 4 of a contradiction; a failed call the disk's count shows
abbrev pub answer_status : Answer → ℕ
answer_status answer.Nothing = 0
answer_status (answer.Refs rows) = 0
answer_status (answer.Status rows) = 0
answer_status (answer.Commit sum) = 0
answer_status (answer.Log rows) = 0
answer_status (answer.Ls rows) = 0
answer_status (answer.Content bytes) = 0
answer_status (answer.Pruned kept removed) = 0
answer_status answer.NoMemory = 3
answer_status (answer.Outside path) = 4
answer_status answer.DiskFault = 0
answer_status (answer.Halted count) = 0
answer_status refusal = 1

-- the greatest number of a list, 0 of none
abbrev pub greatest : List ℕ → ℕ
greatest [] = 0
greatest (n ∷ rest) = max n (greatest rest)

abbrev pub lane_status : List Reply → ℕ
lane_status replies = greatest (map (λ reply. answer_status reply.answer) replies)

abbrev pub replies_status : List (List Reply) → ℕ
replies_status lanes = greatest (map lane_status lanes)

-- The status of a fault alone, 0 where there is none or where a count has to show it. Want of memory never comes as a fault of the
-- script or of the opening, but a function has a row for each.
abbrev pub fault_status : Option TopFault → ℕ
fault_status None = 0
fault_status (Some Usage) = 2
fault_status (Some (Script script.NoMemory)) = 3
fault_status (Some (Script e)) = 2
fault_status (Some Input) = 7
fault_status (Some NoMemory) = 3
fault_status (Some (Open (Outside path))) = 4
fault_status (Some (Open Disk)) = 0
fault_status (Some (Open opening.NoMemory)) = 3
fault_status (Some (Open (Damaged path why))) = 8

-- source, disk and sink tell whether the count of the source, of the file system and of the sink has risen
unfoldable pub status_of : Option TopFault → List (List Reply) → Bool → Bool → Bool → ℕ
status_of fault lanes source disk sink =
    max (max (max (if source then 7 else 0) (if sink then 6 else 0)) (if disk then 4 else 0)) (max (fault_status fault) (replies_status lanes))
