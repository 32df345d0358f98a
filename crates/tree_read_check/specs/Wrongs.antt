-- What is told of a tree as a whole.
use Rattle.std.specs.Prelude.{◌≡◌, ℕ, List, Option, Some, None}
use Rattle.ost_types.specs.declared.limits.Limits.{Limits}
use Rattle.ost_types.specs.declared.object.Kind.TheVariants.{Commit}
use Rattle.fs_trait.specs.View.{Disk}
use Rattle.repo_model.specs.Objects.{Stores}
use Rattle.repo_model.specs.Trees.{name_of}
use Rattle.repo_model.specs.Whole.{Complete}
use Rattle.tree_read.specs.Looks.{IsAbsent, IsDamaged}
use Rattle.tree_read.specs.Order.{FirstAbsent, FirstDamaged}
use Rattle.tree_read.specs.Whole.{AtCommitOr}
use Rattle.tree_read_check.specs.declared.first.Wrong.{Wrong}
use Rattle.tree_read_check.specs.declared.first.Wrong.TheVariants.{Absent, Damaged}

-- Nothing, where the commit is whole; else the commit is missing or damaged itself, or it is there and this object is the first
-- of its tree that is so.
abbrev pub IsFirst : Disk → Limits → List ℕ → Option Wrong → Type 0
IsFirst d limits commit None = Complete (Stores d) limits commit
IsFirst d limits commit (Some (Absent o)) = AtCommitOr d commit ((o ≡ name_of Commit commit) × IsAbsent d o) (λ tree meta. FirstAbsent d limits tree meta o)
IsFirst d limits commit (Some (Damaged o)) = AtCommitOr d commit ((o ≡ name_of Commit commit) × IsDamaged d limits.content o) (λ tree meta. FirstDamaged d limits tree meta o)
