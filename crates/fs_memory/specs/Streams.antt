-- What a source and a sink in memory have.
use Rattle.std.specs.Prelude.{◌-◌, ℕ, List, length, drop}
use Rattle.fs_memory.specs.declared.source.MemSource.{MemSource}
use Rattle.fs_memory.specs.declared.sink.MemSink.{MemSink}

-- the bytes that a source has left
abbrev pub left_in : MemSource → List ℕ
left_in s = drop s.given s.bytes

-- how many calls of `take` there were
abbrev pub takes_of : MemSource → ℕ
takes_of s = s.calls

-- the numbers of those that fail
abbrev pub failing_takes : MemSource → List ℕ
failing_takes s = s.fail.items

-- how many failed
abbrev pub failed_takes : MemSource → ℕ
failed_takes s = s.faults

-- the bytes that a sink took
abbrev pub taken_by : MemSink → List ℕ
taken_by s = s.bytes.items

-- for how many bytes in all it has room
abbrev pub capacity_of : MemSink → ℕ
capacity_of s = s.room

-- for how many more
abbrev pub room_in : MemSink → ℕ
room_in s = capacity_of s - length (taken_by s)

-- how many calls of `put` there were
abbrev pub puts_of : MemSink → ℕ
puts_of s = s.calls

-- the numbers of those that fail
abbrev pub failing_puts : MemSink → List ℕ
failing_puts s = s.fail.items

-- how many failed, or took nothing
abbrev pub failed_puts : MemSink → ℕ
failed_puts s = s.faults
