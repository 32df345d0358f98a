-- A folder in the middle of being read, and how a step changes that.
use Rattle.std.specs.Prelude.{◌≡◌, ◌⊎◌, ◌+◌, ◌-◌, ◌*◌, ◌++◌, ℕ, List, [], ◌∷◌, length, drop, Result, Ok, Err}
use Rattle.std.specs.List.{AllByRecursion}
use Rattle.ost_types.specs.declared.limits.Limits.{Limits}
use Rattle.ost_types.specs.declared.node.NodeName.{NodeName}
use Rattle.ost_types.specs.Path.{Path, IsPath}
use Rattle.ost_types.specs.PathMap.{Nodes}
use Rattle.fs_trait.specs.declared.task.StepResult.{StepResult}
use Rattle.fs_trait.specs.declared.task.StepResult.TheVariants.{More, Done}
use Rattle.tree_scan.specs.declared.fault.ScanFault.{ScanFault}

-- The folder's path, the limits, the paths in it that weren't looked at yet, the next one first, and what was read.
pub record Scanning : Type 0 where
  pub at : Path
  pub limits : Limits
  pub todo : List Path
  pub found : Nodes

-- at its beginning the folder itself is looked at
abbrev pub begun : Path → Limits → Scanning
begun at limits = record { at = at; limits = limits; todo = [] ∷ []; found = [] }

-- the paths keep the bounds of paths
abbrev pub AreWithin : Path → List Path → Type 0
AreWithin at = AllByRecursion (λ p. IsPath (at ++ p))

-- no more steps than this go on: for a path that may still be read it counts more paths than can wait
abbrev pub left : Scanning → ℕ
left t = (t.limits.paths - length t.found) * 18446744073709551616 + length t.todo

-- the same once the next path was looked at
abbrev pub passed : Scanning → Scanning
passed t = record t { todo = drop 1 t.todo }

-- and once it was read as this node, below which these are to be looked at
abbrev pub taken : Path → NodeName → List Path → Scanning → Scanning
taken p n below t = record t { todo = below ++ drop 1 t.todo; found = t.found ++ (p, n) ∷ [] }

abbrev pub Follows : Scanning → Scanning → Type 0
Follows old new = (new ≡ passed old) ⊎ ((p : Path) × (n : NodeName) × (below : List Path) × (new ≡ taken p n below old))

-- Which step it was. One that wasn't done, and the last one, leave the task as it was.
abbrev pub IsStepped : {E : Type 0} → Scanning → Result (StepResult (Result (Unit {0}) ScanFault)) E → Scanning → Type 0
IsStepped old (Ok More) new = Follows old new
IsStepped old (Ok (Done answer)) new = new ≡ old
IsStepped old (Err e) new = new ≡ old

-- where there is more to do
abbrev pub OnMore : {T E : Type 0} → Result (StepResult T) E → Type 0 → Type 0
OnMore (Ok More) P = P
OnMore r P = Unit {0}
