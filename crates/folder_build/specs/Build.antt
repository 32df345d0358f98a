-- A folder that is being made, and which step comes next.
use Rattle.std.specs.Prelude.{◌≡◌, ◌≢◌, ◌⊎◌, ◌<◌, ◌+◌, ◌-◌, ◌*◌, nat_lt, ℕ, true, List, [], length, take, slice_index_or, Some, None, Result, Ok, Err, if◌then◌else◌}
use Rattle.ost_types.specs.Path.{Name, Path, is_below, under}
use Rattle.fs_trait.specs.declared.types.FsErr.{FsErr}
use Rattle.fs_trait.specs.declared.task.StepResult.{StepResult}
use Rattle.fs_trait.specs.declared.task.StepResult.TheVariants.{More, Done}
use Rattle.fs_trait.specs.Effect.{Next}
use Rattle.checkout.specs.Remove as removal
use Rattle.folder_build.specs.declared.node.Content.{Content}
use Rattle.folder_build.specs.declared.node.Content.TheVariants.{Folder, File, Link}
use Rattle.folder_build.specs.declared.node.NewNode.{NewNode}
use Rattle.folder_build.specs.declared.phase.Phase.{Phase}
use Rattle.folder_build.specs.declared.phase.Phase.TheVariants.{Clear, Make, Write, Ended}
use Rattle.folder_build.specs.Node.{content_at}

-- where which nodes are made, and how far that is
pub record Building : Type 0 where
  pub top : Path
  pub nodes : List NewNode
  pub phase : Phase

-- at its beginning
abbrev pub begun : Path → List NewNode → Building
begun top nodes = record { top = top; nodes = nodes; phase = Clear (removal.begun top) }

-- the node of this number, from 0
abbrev pub IsNumber : List NewNode → ℕ → NewNode → Type 0
IsNumber nodes n e = (n < length nodes) × (slice_index_or nodes n e ≡ e)

abbrev pub HasTarget : Content → Type 0
HasTarget (Link t) = t ≢ []
HasTarget what = Unit {0}

-- A node that may follow those: it is the folder itself or lies in a folder among them, and nothing is at its path but, where it is
-- a folder, that folder.
pub record MayFollow (top : Path) (before : List NewNode) (e : NewNode) : Type 0 where
  pub below : is_below top e.at ≡ true
  pub parent : (e.at ≡ top) ⊎ ((f : Path) × (x : Name) × (e.at ≡ under f x) × (content_at before f ≡ Some Folder))
  pub free : (content_at before e.at ≡ None) ⊎ ((e.what ≡ Folder) × (content_at before e.at ≡ Some Folder))
  pub target : HasTarget e.what

-- Nodes that can be made in their order.
pub record IsPlan (top : Path) (nodes : List NewNode) : Type 0 where
  pub below_root : top ≢ []
  pub some : nodes ≢ []
  pub each : (n : ℕ) (e : NewNode) → IsNumber nodes n e → MayFollow top (take n nodes) e

abbrev pub IsFile : List NewNode → ℕ → Type 0
IsFile nodes n = (e : NewNode) → IsNumber nodes n e → (b : List ℕ) × (e.what ≡ File b)

-- how far it is
abbrev pub IsWithin : Phase → Path → List NewNode → Type 0
IsWithin (Clear c) top nodes = c.at ≡ top
IsWithin (Make n) top nodes = n < length nodes
IsWithin (Write n) top nodes = (n < length nodes) × IsFile nodes n
IsWithin Ended top nodes = Unit {0}

-- what each such task keeps
pub record IsMade (t : Building) : Type 0 where
  pub plan : IsPlan t.top t.nodes
  pub within : IsWithin t.phase t.top t.nodes

abbrev pub IsClear : Phase → Type 0
IsClear (Clear c) = Unit {0}
IsClear ph = ⊥

-- the task once that node is whole
abbrev pub reached_phase : ℕ → List NewNode → Phase
reached_phase n nodes = if nat_lt (n + 1) (length nodes) then Make (n + 1) else Ended

abbrev pub reached : ℕ → Building → Building
reached n t = record t { phase = reached_phase n t.nodes }

abbrev pub reached_turn : ℕ → Building → StepResult (Unit {0})
reached_turn n t = if nat_lt (n + 1) (length t.nodes) then More else Done tt

-- Which step it was, and what changed in the task.
abbrev pub steps_in : Phase → Building → StepResult (Unit {0}) → Building → Type 0
steps_in (Clear c) old More new = ((d : removal.Removing) × (new ≡ record old { phase = Clear d })) ⊎ (new ≡ record old { phase = Make 0 })
steps_in (Clear c) old (Done x) new = ⊥
steps_in (Make n) old turn new = ((turn ≡ reached_turn n old) × (new ≡ reached n old)) ⊎ ((turn ≡ More) × (new ≡ record old { phase = Write n }))
steps_in (Write n) old turn new = (turn ≡ reached_turn n old) × (new ≡ reached n old)
steps_in Ended old turn new = (turn ≡ Done tt) × (new ≡ old)

-- One that wasn't done leaves the task as it was.
abbrev pub IsStepped : Building → Result (StepResult (Unit {0})) FsErr → Building → Type 0
IsStepped old (Ok turn) new = steps_in old.phase old turn new
IsStepped old (Err e) new = new ≡ old

-- no more steps than this are left: two for each node
abbrev pub left_in : Phase → ℕ → ℕ
left_in (Clear c) count = removal.left c + 2 * count + 1
left_in (Make n) count = 2 * (count - n)
left_in (Write n) count = 2 * (count - n) - 1
left_in Ended count = 0

abbrev pub left : Building → ℕ
left t = left_in t.phase (length t.nodes)

-- how a step moves the clock: a folder may be there already
abbrev pub Takes : Phase → ℕ → ℕ → Type 0
Takes (Clear c) before now = Next before now ⊎ (now ≡ before)
Takes (Make n) before now = Next before now ⊎ (now ≡ before)
Takes (Write n) before now = Next before now
Takes Ended before now = now ≡ before

abbrev pub OnMore : Result (StepResult (Unit {0})) FsErr → Type 0 → Type 0
OnMore (Ok More) P = P
OnMore r P = Unit {0}
