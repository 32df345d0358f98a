-- A map that is being checked out, and which step comes next.
use Rattle.std.specs.Prelude.{◌≡◌, ◌<◌, ◌+◌, ◌-◌, ◌++◌, nat_lt, ℕ, length, slice_index_or, Result, Ok, Err, if◌then◌else◌, All}
use Rattle.ost_types.specs.declared.node.NodeName.{NodeName}
use Rattle.ost_types.specs.Path.{Path, IsPath}
use Rattle.ost_types.specs.PathMap.{Nodes, IsPathMap}
use Rattle.fs_trait.specs.declared.types.FsErr.{FsErr}
use Rattle.fs_trait.specs.declared.task.StepResult.{StepResult}
use Rattle.fs_trait.specs.declared.task.StepResult.TheVariants.{More, Done}
use Rattle.fs_trait.specs.Effect.{Next}
use Rattle.checkout.specs.CheckoutFolder.{IsTreeMap}
use Rattle.checkout.specs.declared.checkout_phase.DestExists.{DestExists}
use Rattle.checkout.specs.declared.checkout_phase.CheckoutPhase.{CheckoutPhase}
use Rattle.checkout.specs.declared.checkout_phase.CheckoutPhase.TheVariants.{Begin, Make, Ended, Refused}

-- where which map is checked out, and how far it is
pub record Checkout : Type 0 where
  pub into : Path
  pub tree : Nodes
  pub phase : CheckoutPhase

-- at its beginning
abbrev pub beginning : Path → Nodes → Checkout
beginning into tree = record { into = into; tree = tree; phase = Begin }

abbrev pub Answer : Type 0
Answer = Result (Unit {0}) DestExists

-- the pair of the map with this number, from 0
abbrev pub IsNumber : Nodes → ℕ → Path × NodeName → Type 0
IsNumber tree n e = (n < length tree) × (slice_index_or tree n e ≡ e)

-- The map is a tree, and each of its paths, below the folder, is one that the type holds.
pub record IsPlaced (into : Path) (tree : Nodes) : Type 0 where
  pub shape : IsTreeMap tree
  pub fits : All (λ e. IsPath (into ++ e.0)) tree

-- how far it is
abbrev pub IsWithin : CheckoutPhase → ℕ → Type 0
IsWithin (Make n) count = n < count
IsWithin ph count = Unit {0}

-- what each such task keeps
pub record IsMade (t : Checkout) : Type 0 where
  pub placed : IsPlaced t.into t.tree
  pub map : IsPathMap t.tree
  pub within : IsWithin t.phase (length t.tree)

-- the task once that pair of the map is made
abbrev pub reached : ℕ → Checkout → Checkout
reached n t = record t { phase = if nat_lt (n + 1) (length t.tree) then Make (n + 1) else Ended }

abbrev pub reached_turn : ℕ → Checkout → StepResult Answer
reached_turn n t = if nat_lt (n + 1) (length t.tree) then More else Done (Ok tt)

-- Which step it was, and what changed in the task: the next pair of the map was made, and after the last one the task is done; or
-- it was refused at its beginning. One that wasn't done leaves the task as it was.
abbrev pub IsReached : ℕ → Checkout → StepResult Answer → Checkout → Type 0
IsReached n old turn new = (turn ≡ reached_turn n old) × (new ≡ reached n old)

abbrev pub steps_in : CheckoutPhase → Checkout → StepResult Answer → Checkout → Type 0
steps_in Begin old (Done (Err e)) new = new ≡ record old { phase = Refused }
steps_in Begin old turn new = IsReached 0 old turn new
steps_in (Make n) old turn new = IsReached n old turn new
steps_in Ended old turn new = (turn ≡ Done (Ok tt)) × (new ≡ old)
steps_in Refused old (Done (Err e)) new = new ≡ old
steps_in Refused old turn new = ⊥

abbrev pub IsStepped : Checkout → Result (StepResult Answer) FsErr → Checkout → Type 0
IsStepped old (Ok turn) new = steps_in old.phase old turn new
IsStepped old (Err e) new = new ≡ old

-- so many steps are left: one for each pair of the map
abbrev pub left_in : CheckoutPhase → ℕ → ℕ
left_in Begin count = count
left_in (Make n) count = count - n
left_in Ended count = 0
left_in Refused count = 0

abbrev pub left : Checkout → ℕ
left t = left_in t.phase (length t.tree)

-- how a step moves the clock: by its one changing call, but a refusal calls none
abbrev pub Takes : CheckoutPhase → StepResult Answer → ℕ → ℕ → Type 0
Takes Begin (Done (Err e)) before now = now ≡ before
Takes Begin turn before now = Next before now
Takes (Make n) turn before now = Next before now
Takes ph turn before now = now ≡ before

abbrev pub OnMore : Result (StepResult Answer) FsErr → Type 0 → Type 0
OnMore (Ok More) P = P
OnMore r P = Unit {0}
