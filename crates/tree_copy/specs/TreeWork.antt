-- A tree that is being copied, and which step comes next.
use Rattle.std.specs.Prelude.{◌≡◌, ◌⊎◌, ◌≤◌, ◌<◌, ◌+◌, ◌-◌, ◌*◌, ◌++◌, nat_lt, ℕ, Bool, true, false, List, length, Result, Ok, Err, if◌then◌else◌}
use Rattle.ost_types.specs.declared.meta.Meta.{Meta}
use Rattle.ost_types.specs.declared.node.NodeName.TheVariants.{Leaf}
use Rattle.ost_types.specs.Path.{Path}
use Rattle.ost_types.specs.PathMap.{Nodes, IsPathMap}
use Rattle.fs_trait.specs.declared.types.FsErr.{FsErr}
use Rattle.fs_trait.specs.declared.task.StepResult.{StepResult}
use Rattle.fs_trait.specs.declared.task.StepResult.TheVariants.{More, Done}
use Rattle.fs_trait.specs.Effect.{Next}
use Rattle.staging.specs.declared.phase.Phase.{Phase}
use Rattle.staging.specs.declared.phase.Phase.TheVariants as staged
use Rattle.staging.specs.Draft as staging
use Rattle.file_copy.specs.Copying as copy
use Rattle.file_copy.specs.Copying.{Copying}
use Rattle.checkout.specs.CheckoutFolder.{leaf_path}
use Rattle.checkout.specs.CheckoutWork.{Answer, IsNumber, IsPlaced}
use Rattle.tree_copy.specs.declared.phase.TreePhase.{TreePhase}
use Rattle.tree_copy.specs.declared.phase.TreePhase.TheVariants.{Begin, Make, Copy, Ended, Refused}

-- where which map is copied to, and how far it is
pub record TreeCopying : Type 0 where
  pub into : Path
  pub tree : Nodes
  pub phase : TreePhase

-- at its beginning
abbrev pub begun : Path → Nodes → TreeCopying
begun into tree = record { into = into; tree = tree; phase = Begin }

-- the most paths of a map
abbrev pub most_paths : ℕ
most_paths = 4294967296

-- whether all bytes are there, so that only the sync is left
abbrev pub is_whole : Phase → Bool
is_whole staged.SyncFile = true
is_whole ph = false

abbrev pub IsBusy : Phase → Type 0
IsBusy staged.SyncFile = ⊥
IsBusy staged.Ended = ⊥
IsBusy ph = Unit {0}

-- the file of the leaf with this number is being copied: from its object's path to its own
pub record IsPair (n : ℕ) (c : Copying) (into : Path) (tree : Nodes) : Type 0 where
  pub path : Path
  pub sum : List ℕ
  pub number : IsNumber tree n (path, Leaf sum)
  pub source : c.from ≡ leaf_path sum
  pub target : c.stage ≡ into ++ path
  pub busy : IsBusy c.phase

-- how far it is
abbrev pub IsWithin : TreePhase → Path → Nodes → Type 0
IsWithin (Make n) into tree = n < length tree
IsWithin (Copy n c) into tree = IsPair n c into tree
IsWithin ph into tree = Unit {0}

-- what each such task keeps
pub record IsMade (t : TreeCopying) : Type 0 where
  pub placed : IsPlaced t.into t.tree
  pub map : IsPathMap t.tree
  pub few : length t.tree ≤ most_paths
  pub within : IsWithin t.phase t.into t.tree

abbrev pub IsCopying : ℕ → TreePhase → Type 0
IsCopying n (Copy k c) = k ≡ n
IsCopying n ph = ⊥

-- the task once that node of the map is made
abbrev pub reached : ℕ → TreeCopying → TreeCopying
reached n t = record t { phase = if nat_lt (n + 1) (length t.tree) then Make (n + 1) else Ended }

abbrev pub reached_turn : ℕ → TreeCopying → StepResult Answer
reached_turn n t = if nat_lt (n + 1) (length t.tree) then More else Done (Ok tt)

-- and once the copy of its file is that far: with its last byte it is made
abbrev pub copied : ℕ → Copying → TreeCopying → TreeCopying
copied n c t = if is_whole c.phase then reached n t else record t { phase = Copy n c }

abbrev pub copied_turn : ℕ → Copying → TreeCopying → StepResult Answer
copied_turn n c t = if is_whole c.phase then reached_turn n t else More

-- Which step it was, and what changed in the task: the next node of the map was made, and after the last one the task is done; or
-- the copy of its file begins, or went one step on; or it was refused at its beginning.
abbrev pub IsReached : ℕ → TreeCopying → StepResult Answer → TreeCopying → Type 0
IsReached n old turn new = (turn ≡ reached_turn n old) × (new ≡ reached n old)

pub record BeginsCopy (n : ℕ) (old new : TreeCopying) : Type 0 where
  pub path : Path
  pub sum : List ℕ
  pub meta : Meta
  pub number : IsNumber old.tree n (path, Leaf sum)
  pub is : new ≡ record old { phase = Copy n (copy.begun (leaf_path sum) (old.into ++ path) meta) }

pub record GoesOn (n : ℕ) (c : Copying) (old : TreeCopying) (turn : StepResult Answer) (new : TreeCopying) : Type 0 where
  pub copying : Copying
  pub step : copy.IsStepped {T = Unit {0}} c (Ok More) copying
  pub turns : turn ≡ copied_turn n copying old
  pub is : new ≡ copied n copying old

abbrev pub steps_in : TreePhase → TreeCopying → StepResult Answer → TreeCopying → Type 0
steps_in Begin old (Done (Err e)) new = new ≡ record old { phase = Refused }
steps_in Begin old turn new = IsReached 0 old turn new
steps_in (Make n) old turn new = IsReached n old turn new ⊎ ((turn ≡ More) × BeginsCopy n old new)
steps_in (Copy n c) old turn new = GoesOn n c old turn new
steps_in Ended old turn new = (turn ≡ Done (Ok tt)) × (new ≡ old)
steps_in Refused old (Done (Err e)) new = new ≡ old
steps_in Refused old turn new = ⊥

-- One that wasn't done leaves the task as it was.
abbrev pub IsStepped : TreeCopying → Result (StepResult Answer) FsErr → TreeCopying → Type 0
IsStepped old (Ok turn) new = steps_in old.phase old turn new
IsStepped old (Err e) new = new ≡ old

-- no node takes more steps: one that begins it, and those of a copy of the longest file
abbrev pub node_steps : ℕ
node_steps = 18446744073709551620

-- no more steps than this are left
abbrev pub left_in : TreePhase → ℕ → ℕ
left_in Begin count = node_steps * count
left_in (Make n) count = node_steps * (count - n)
left_in (Copy n c) count = node_steps * (count - (n + 1)) + copy.left c
left_in Ended count = 0
left_in Refused count = 0

abbrev pub left : TreeCopying → ℕ
left t = left_in t.phase (length t.tree)

-- how a step moves the clock: by its one changing call, but a refusal calls none, nor does the step that begins a copy
abbrev pub takes_in : TreePhase → TreePhase → ℕ → ℕ → Type 0
takes_in Begin Refused before now = now ≡ before
takes_in Begin new before now = Next before now
takes_in (Make n) (Copy k c) before now = now ≡ before
takes_in (Make n) new before now = Next before now
takes_in (Copy n c) new before now = staging.Takes c.phase before now
takes_in ph new before now = now ≡ before

abbrev pub Takes : TreeCopying → TreeCopying → ℕ → ℕ → Type 0
Takes old new = takes_in old.phase new.phase
