-- What a file system in memory shows.
use Rattle.std.specs.Prelude.{◌≡◌, ◌+◌, ◌-◌, ℕ, Bool, List, [], Option, length, min, take}
use Rattle.std.specs.Vec.{vec_capacity, vec_len}
use Rattle.fs_trait.specs.View.{View}
use Rattle.memory_record.specs.declared.change.Change.{Change}
use Rattle.memory_record.specs.Changes.{view_of, Was}
use Rattle.fs_memory.specs.declared.mem_fs.MemFs.{MemFs}
use Rattle.fs_memory.specs.declared.plan.FailAt.{FailAt}
use Rattle.fs_memory.specs.Calls.{IsNext}
use Rattle.fs_memory.specs.Recorded.{planned}

-- what its calls recorded, one change a call, behind what it began with
abbrev pub record_of : MemFs → List Change
record_of m = m.past.changes.items

-- the view now
abbrev pub view_now : MemFs → View
view_now m = view_of (record_of m)

-- how many changing calls there were
abbrev pub clock_of : MemFs → ℕ
clock_of m = length (record_of m) - m.base

-- the view when there were so many
abbrev pub view_at : MemFs → ℕ → View
view_at m t = view_of (take (m.base + t) (record_of m))

-- the view was this one since then
abbrev pub was_since : MemFs → ℕ → View → Type 0
was_since m = λ t v. Was (record_of m) (m.base + t) v

-- how many changing calls have room for what they record, and for the paths of that
abbrev pub room_of : MemFs → ℕ
room_of m = min (min m.places m.targets) (vec_capacity m.past.changes - vec_len m.past.changes)

-- neither the record changed, nor its room, nor when the clock began
abbrev pub KeepsRecord : MemFs → MemFs → Type 0
KeepsRecord old new = (new.past.changes ≡ old.past.changes) × (new.base ≡ old.base)

-- nor the room for paths
abbrev pub KeepsPools : MemFs → MemFs → Type 0
KeepsPools old new = (new.places ≡ old.places) × (new.targets ≡ old.targets)

-- how many calls it counted
abbrev pub calls_of : MemFs → ℕ
calls_of m = m.calls

-- how many of them failed
abbrev pub faults_of : MemFs → ℕ
faults_of m = m.faults

-- the calls that are to fail
abbrev pub plan_in : MemFs → List FailAt
plan_in m = m.plan.items

-- it counted no call yet, and none is to fail
abbrev pub HasNoPlan : MemFs → Type 0
HasNoPlan m = (plan_in m ≡ []) × (calls_of m ≡ 0)

-- it counted none, and has the same plan
abbrev pub CountsNone : MemFs → MemFs → Type 0
CountsNone old new = (plan_in new ≡ plan_in old) × (calls_of new ≡ calls_of old)

-- it counted one call more, by the same plan
abbrev pub CountsCall : MemFs → MemFs → Type 0
CountsCall old new = (plan_in new ≡ plan_in old) × IsNext (calls_of old) (calls_of new)

-- what the plan says of the call that it counted
abbrev pub planned_call : MemFs → MemFs → Option Bool
planned_call old new = planned (plan_in old) (calls_of new)
