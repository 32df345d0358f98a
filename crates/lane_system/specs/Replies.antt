-- What a reply says.
use Rattle.std.specs.Prelude.{◌≡◌, ◌⊎◌, ◌≤◌, ◌++◌, ◌∷◌, [], ℕ, List, length, take, Option, Some}
use Rattle.ost_types.specs.declared.limits.Limits.{Limits}
use Rattle.ost_types.specs.Path.{Path}
use Rattle.fs_trait.specs.Count.{Rose}
use Rattle.fs_trait.specs.View.{View}
use Rattle.rely_guarantee.specs.declared.books.Entry.{Entry}
use Rattle.rely_guarantee.specs.declared.event.Event.{Event}
use Rattle.rely_guarantee.specs.declared.kind.Halt.{Halt}
use Rattle.rely_guarantee.specs.declared.kind.Halt.TheVariants as halt
use Rattle.rely_guarantee.specs.State.{SystemState}
use Rattle.command.specs.declared.ended.Ended.{Ended}
use Rattle.command.specs.declared.ended.Ended.TheVariants.{Answered, NoMemory, DiskFault, Outside, Halted}
use Rattle.command.specs.Meaning.{Meaning}
use Rattle.command.specs.Since.{Since, begun_in, placed}
use Rattle.command.specs.Sound.{IsSoundStore}
use Rattle.lane_system.specs.declared.lane.Reply.{Reply}
use Rattle.lane_system.specs.States.{state_after}

-- file systems of this kind tell their view; they do it always or never
abbrev pub IsTold : {F : Type 0} → (F → Option View) → Type 0
IsTold {F} view = (fs : F) × (v : View) × (view fs ≡ Some v)

-- all commands were ended, since a call that changes something failed
abbrev pub IsHalted : {A : Type 0} → Ended A → Type 0
IsHalted (Halted count) = Unit {0}
IsHalted x = ⊥

-- a call failed
abbrev pub IsFailure : {A : Type 0} → Ended A → Type 0
IsFailure DiskFault = Unit {0}
IsFailure (Halted count) = Unit {0}
IsFailure x = ⊥

-- something else than this program changed what stands at a path
abbrev pub IsOutside : {A : Type 0} → Ended A → Type 0
IsOutside (Outside path) = Unit {0}
IsOutside x = ⊥

-- so of an answer of the family
abbrev pub OfAnswer : {A : Type 0} → (A → Type 0) → Ended A → Type 0
OfAnswer P (Answered a) = P a
OfAnswer P x = ⊥

-- and of one, if it is one
abbrev pub IfAnswer : {A : Type 0} → (A → Type 0) → Ended A → Type 0
IfAnswer P (Answered a) = P a
IfAnswer P x = Unit {0}

-- What ended all commands is what a reply says that tells so: a call that failed, by the count of such calls, or one that was refused for
-- what stands at its path, by this path.
abbrev pub EndsBy : {A : Type 0} → Option Halt → Option Path → ℕ → Ended A → Type 0
EndsBy halted refused faults (Halted count) = (halted ≡ Some halt.Failed) × (count ≡ faults)
EndsBy halted refused faults (Outside path) = (halted ≡ Some halt.Strayed) × (refused ≡ Some path)
EndsBy halted refused faults x = Unit {0}

-- once all commands were ended, each that is answered later is answered so
abbrev pub EndsToo : {A : Type 0} → Ended A → Ended A → Type 0
EndsToo (Halted count) later = later ≡ Halted count
EndsToo (Outside path) later = (later ≡ Outside path) ⊎ (later ≡ NoMemory)
EndsToo x later = Unit {0}

-- a command that was cut short: all were ended, for a failed call, or, where the view isn't told, since a call was refused for what stands at
-- its path
abbrev pub IsCutOff : {A : Type 0} → Type 0 → Ended A → Type 0
IsCutOff told (Halted count) = Unit {0}
IsCutOff told (Outside path) = ¬ told
IsCutOff told NoMemory = ¬ told
IsCutOff told x = ⊥

-- the last of these changes is this one, made by this command of the lane
abbrev pub HasMade : ℕ → ℕ → (Event → Type 0) → List Entry → Type 0
HasMade lane number IsIt entries = (before : List Entry) × (last : Entry) × (entries ≡ before ++ last ∷ []) × (last.lane ≡ lane) × (last.command ≡ number) × IsIt last.event

-- an answer says what its family means; and the change that it says was made is the last one, of which it tells what is so
abbrev pub Answers : {W A : Type 0} → Meaning W A → ℕ → ℕ → Since → List Entry → W → A → Type 0
Answers m lane number since entries c a = m.says since a c × (m.makes a c → HasMade lane number (λ e. m.changes (begun_in since.limits since.start) c e × m.tells a e) entries)

-- what one says where the view is told; and there nothing else changes the disk
abbrev pub Knows : {W A : Type 0} → Meaning W A → Since → W → Ended A → Type 0
Knows m since c (Answered a) = m.knows since a c
Knows m since c (Outside path) = ⊥
Knows m since c x = Unit {0}

-- a call failed in the act that says so; or one that changes something did before, and ended all commands
abbrev pub IsCaused : {A : Type 0} → Option Halt → ℕ → ℕ → Ended A → Type 0
IsCaused halted before now DiskFault = Rose before now
IsCaused halted before now (Halted count) = (halted ≡ Some halt.Failed) ⊎ Rose before now
IsCaused halted before now x = Unit {0}

-- what a reply tells of the disk before its act, where the view is told and the store sound, and of calls that failed in it
abbrev pub Shown : {W A : Type 0} → Meaning W A → Since → Option View → Option Halt → ℕ → ℕ → W → Ended A → Type 0
Shown m since view halted before now c x = ((v : View) → view ≡ Some v → IsSoundStore since.limits v.now → IfAnswer (λ a. m.shows since v a c) x) × IsCaused halted before now x

-- A reply to a command of a lane: by the state at its start and the one at its place, which come in this order.
pub record IsReply {W A : Type 0} (told : Type 0) (m : Meaning W A) (limits : Limits) (begin : SystemState) (entries : List Entry) (lane number : ℕ) (c : W) (r : Reply A) : Type 0 where
  pub begun : r.start ≤ r.place
  pub within : r.place ≤ length entries
  pub answer : IfAnswer (Answers m lane number (placed (begun_in limits (state_after begin entries r.start)) (state_after begin entries r.place)) (take r.place entries) c) r.answer
  pub known : told → Knows m (placed (begun_in limits (state_after begin entries r.start)) (state_after begin entries r.place)) c r.answer
