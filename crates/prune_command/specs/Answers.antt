-- What a prune's answers say.
use Rattle.std.specs.Prelude.{◌≡◌, ◌⊎◌, ◌↔◌, ◌++◌, ℕ, List, length, Contains}
use Rattle.ost_types.specs.declared.object.Kind.TheVariants.{Commit}
use Rattle.ost_types.specs.declared.object.ObjName.{ObjName}
use Rattle.ost_types.specs.Path.{Path}
use Rattle.fs_trait.specs.View.{Disk}
use Rattle.repo_layout.specs.Refs.{Names}
use Rattle.repo_model.specs.Objects.{Stores, path_of}
use Rattle.repo_model.specs.Trees.{name_of}
use Rattle.boot_model.specs.declared.item.DepId.{DepId}
use Rattle.rely_guarantee.specs.State.{IsDeployedCommit}
use Rattle.reach.specs.Lines.{Reachable}
use Rattle.reach.specs.Reach.{IsIn}
use Rattle.store_check.specs.Listing.{AreAll, IsThere}
use Rattle.tree_read.specs.Looks.{IsDamaged}
use Rattle.prune_command.specs.declared.answer.PruneAnswer.{PruneAnswer}
use Rattle.prune_command.specs.declared.answer.PruneAnswer.TheVariants as answer

-- a ref names the commit
abbrev pub IsNamed : Disk → ObjName → Type 0
IsNamed d o = (name : List ℕ) × (commit : List ℕ) × Names d name commit × (o ≡ name_of Commit commit)

-- All objects of the disk, so many, are reachable from the commits that refs name, from those of the deployments and from what other commands
-- hold, with so many parents of each of these.
pub record ShowsPruned (ids : List DepId) (depth kept : ℕ) (d : Disk) : Type 0 where
  pub roots : List ObjName
  pub held : List ObjName
  pub are : (o : ObjName) → Contains roots o ↔ (IsNamed d o ⊎ IsDeployedCommit ids o)
  pub all : (o : ObjName) → IsIn (Stores d) o → Reachable (Stores d) (Contains (roots ++ held)) depth o
  pub names : List ObjName
  pub names_are : AreAll d names
  pub count : kept ≡ length names

-- what stands at this path is no object of its name
abbrev pub HasDamaged : Disk → ℕ → Path → Type 0
HasDamaged d content path = (o : ObjName) × (path ≡ path_of o) × IsThere d o × IsDamaged d content o

-- by the disk behind the last step, where content of a file has at most so many bytes
abbrev pub Says : List DepId → ℕ → ℕ → Disk → PruneAnswer → Type 0
Says ids depth content d (answer.Pruned kept removed) = ShowsPruned ids depth kept d
Says ids depth content d (answer.Outside path) = HasDamaged d content path
