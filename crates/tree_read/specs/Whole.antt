-- What the tree of a commit is read as.
use Rattle.std.specs.Prelude.{◌≡◌, ◌⊎◌, ◌↔◌, ◌≤◌, ℕ, List, Contains, Result, Ok, Err}
use Rattle.ost_types.specs.declared.limits.Limits.{Limits}
use Rattle.ost_types.specs.declared.node.NodeName.{NodeName}
use Rattle.ost_types.specs.declared.object.Kind.TheVariants as kind
use Rattle.ost_types.specs.Path.{Path}
use Rattle.ost_types.specs.PathMap.{Nodes}
use Rattle.ost_forms.specs.Commit.{CommitParts}
use Rattle.fs_trait.specs.declared.types.FsErr.TheVariants as fs
use Rattle.fs_trait.specs.Count.{Rose}
use Rattle.fs_trait.specs.Effect.{OfNone}
use Rattle.fs_trait.specs.View.{Disk}
use Rattle.repo_model.specs.Objects.{Store, Stores}
use Rattle.repo_model.specs.Trees.{HasCommit, TreeShows, name_of}
use Rattle.repo_model.specs.Whole.{Complete}
use Rattle.tree_read.specs.Looks.{IsAbsent, IsDamaged}
use Rattle.tree_read.specs.Order.{FirstAbsent, FirstDamaged}
use Rattle.tree_read.specs.declared.fault.TreeFault.{TreeFault}
use Rattle.tree_read.specs.declared.fault.TreeFault.TheVariants as fault

-- the pairs of the map are what the commit shows
abbrev pub IsTree : Store → List ℕ → Nodes → Type 0
IsTree S commit map = (p : Path) (n : NodeName) → Contains map (p, n) ↔ TreeShows S commit p n

-- the commit itself is so, or a store has it and its tree is so
abbrev pub AtCommitIn : Store → List ℕ → Type 0 → (List ℕ → List ℕ → Type 0) → Type 0
AtCommitIn S commit Itself Below = Itself ⊎ ((c : CommitParts) × HasCommit S commit c × Below c.tree c.meta)

abbrev pub AtCommitOr : Disk → List ℕ → Type 0 → (List ℕ → List ℕ → Type 0) → Type 0
AtCommitOr d = AtCommitIn (Stores d)

-- The map is the tree, and the commit is whole within the limits; else the first object is told that is missing, or damaged.
abbrev pub ReadsTree : Disk → Limits → List ℕ → Result Nodes TreeFault → Type 0
ReadsTree d limits commit (Ok map) = Complete (Stores d) limits commit × IsTree (Stores d) commit map
ReadsTree d limits commit (Err (fault.Absent o)) = AtCommitOr d commit ((o ≡ name_of kind.Commit commit) × IsAbsent d o) (λ tree meta. FirstAbsent d limits tree meta o)
ReadsTree d limits commit (Err (fault.Damaged o)) = AtCommitOr d commit ((o ≡ name_of kind.Commit commit) × IsDamaged d limits.content o) (λ tree meta. FirstDamaged d limits tree meta o)
ReadsTree d limits commit (Err (fault.Fs e)) = OfNone e
ReadsTree d limits commit (Err fault.NoMemory) = Unit {0}

-- `Failed` comes only where the count of faults rose, or stands at its last value
abbrev pub IsFailed : {T : Type 0} → Result T TreeFault → Type 0
IsFailed (Err (fault.Fs fs.Failed)) = Unit {0}
IsFailed r = ⊥

pub record HasCauseOf {T : Type 0} (before now : ℕ) (result : Result T TreeFault) : Type 0 where
  pub later : before ≤ now
  pub failed : IsFailed result → Rose before now
