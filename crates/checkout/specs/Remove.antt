-- A removal of what stands at a path, and which step comes next.
use Rattle.std.specs.Prelude.{◌≡◌, ◌≢◌, ◌⊎◌, ◌≤◌, ◌+◌, ◌-◌, ◌*◌, ℕ, List, [], ◌∷◌, length, Result, Ok, Err}
use Rattle.ost_types.specs.Path.{Name, Path, under}
use Rattle.fs_trait.specs.declared.types.FsErr.{FsErr}
use Rattle.fs_trait.specs.declared.task.StepResult.{StepResult}
use Rattle.fs_trait.specs.declared.task.StepResult.TheVariants.{More, Done}
use Rattle.fs_trait.specs.Effect.{Next}
use Rattle.checkout.specs.declared.remove.phase.Phase.{Phase}
use Rattle.checkout.specs.declared.remove.phase.Phase.TheVariants.{Look, Inside, Ended}
use Rattle.checkout.specs.RemoveFolder as folder
use Rattle.checkout.specs.RemoveFolder.{Opened}

-- The path that is cleared, how far that is, the folders around the innermost open one, from it upwards, and how many more may be
-- opened.
pub record Removing : Type 0 where
  pub at : Path
  pub phase : Phase
  pub outer : List Opened
  pub room : ℕ

-- no more folders than this are opened
abbrev pub most : ℕ
most = 9223372036854775808

-- a removal at its beginning
abbrev pub begun : Path → Removing
begun at = record { at = at; phase = Look; outer = []; room = most }

-- all folders that are open, the innermost first
abbrev pub opened_in : Phase → List Opened → List Opened
opened_in (Inside f) outer = f ∷ outer
opened_in ph outer = []

abbrev pub opened : Removing → List Opened
opened t = opened_in t.phase t.outer

-- each of the folders stands in the one around it, and the last is the one at the path
abbrev pub IsChain : Path → List Opened → Type 0
IsChain at [] = Unit {0}
IsChain at (f ∷ []) = f.path ≡ at
IsChain at (f ∷ g ∷ outer) = ((x : Name) × (f.path ≡ under g.path x)) × IsChain at (g ∷ outer)

-- no folder is around one that isn't open
abbrev pub IsAlone : Phase → List Opened → Type 0
IsAlone (Inside f) outer = Unit {0}
IsAlone ph outer = outer ≡ []

-- What each such task keeps.
pub record IsMade (t : Removing) : Type 0 where
  pub below_root : t.at ≢ []
  pub chain : IsChain t.at (opened t)
  pub alone : IsAlone t.phase t.outer
  pub room : t.room ≤ most

-- what the next step does: it looks at a path, it removes an open folder in which nothing is left, or it does nothing
pub data Act : Type 0 where
  Looks : Path → Act
  Closes : Path → Act
  Ends : Act

abbrev pub act_of : Path → List Name → Act
act_of f (x ∷ names) = Looks (under f x)
act_of f [] = Closes f

abbrev pub act_in : Phase → Path → Act
act_in Look at = Looks at
act_in (Inside f) at = act_of f.path f.names
act_in Ended at = Ends

abbrev pub act : Removing → Act
act t = act_in t.phase t.at

-- the task once nothing stands at the path that was looked at
abbrev pub passed_in : Phase → Phase
passed_in Look = Ended
passed_in (Inside f) = Inside (folder.passed f)
passed_in Ended = Ended

abbrev pub passed : Removing → Removing
passed t = record t { phase = passed_in t.phase }

-- the task once a folder with these names was found there: it is the innermost from now on
abbrev pub around : Phase → List Opened → List Opened
around (Inside f) outer = folder.passed f ∷ outer
around ph outer = outer

abbrev pub entered : Path → List Name → Removing → Removing
entered p names t = record { at = t.at; phase = Inside (record { path = p; names = names }); outer = around t.phase t.outer; room = t.room - 1 }

-- the task once the innermost folder is gone
abbrev pub closed_to : Path → List Opened → ℕ → Removing
closed_to at [] room = record { at = at; phase = Ended; outer = []; room = room }
closed_to at (f ∷ outer) room = record { at = at; phase = Inside f; outer = outer; room = room }

abbrev pub closed : Removing → Removing
closed t = closed_to t.at t.outer t.room

-- it is done once nothing is open any more
abbrev pub turn_in : Phase → StepResult (Unit {0})
turn_in Ended = Done tt
turn_in ph = More

-- which task may follow
abbrev pub Follows : Act → Removing → Removing → Type 0
Follows (Looks p) old new = (new ≡ passed old) ⊎ ((names : List Name) × (new ≡ entered p names old))
Follows (Closes p) old new = new ≡ closed old
Follows Ends old new = new ≡ old

-- Which step it was. One that wasn't done leaves the task as it was.
abbrev pub IsStepped : Removing → Result (StepResult (Unit {0})) FsErr → Removing → Type 0
IsStepped old (Ok turn) new = Follows (act old) old new × (turn ≡ turn_in new.phase)
IsStepped old (Err e) new = new ≡ old

-- the steps for what was listed, with one for each open folder
abbrev pub waiting : List Opened → ℕ
waiting [] = 0
waiting (f ∷ outer) = length f.names + 1 + waiting outer

-- no more steps than this are left: a folder that may still be opened counts for more names than it can have
abbrev pub left_in : Phase → List Opened → ℕ → ℕ
left_in Look outer room = room * 18446744073709551616 + 1
left_in (Inside f) outer room = room * 18446744073709551616 + waiting (f ∷ outer)
left_in Ended outer room = 0

abbrev pub left : Removing → ℕ
left t = left_in t.phase t.outer t.room

-- how a step moves the clock
abbrev pub Takes : Act → ℕ → ℕ → Type 0
Takes (Looks p) before now = Next before now ⊎ (now ≡ before)
Takes (Closes p) before now = Next before now
Takes Ends before now = now ≡ before

-- where there is more to do
abbrev pub OnMore : {T : Type 0} → Result (StepResult T) FsErr → Type 0 → Type 0
OnMore (Ok More) P = P
OnMore r P = Unit {0}
