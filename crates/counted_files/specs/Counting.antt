-- Which calls change nothing, and counts that stop at their last value.
use Rattle.std.specs.Prelude.{Bool, true, false, ℕ, ◌+◌, min}
use Rattle.counted_files.specs.declared.call.Call.{Call}
use Rattle.counted_files.specs.declared.call.Call.TheVariants.{Stat, Read, ReadPart, List, Same}

-- the calls that change nothing
abbrev pub is_reading : Call → Bool
is_reading Stat = true
is_reading Read = true
is_reading ReadPart = true
is_reading List = true
is_reading Same = true
is_reading call = false

abbrev pub one_more : ℕ → ℕ
one_more n = min (n + 1) 4294967295

abbrev pub one_step_more : ℕ → ℕ
one_step_more n = min (n + 1) 18446744073709551615
