-- What a sweep is to remove, by the disk on which it was planned.
use Rattle.std.specs.Prelude.{◌≡◌, ◌≢◌, ◌⊎◌, ◌-◌, ◌<◌, ℕ, List, length, slice_index_or, Contains}
use Rattle.ost_types.specs.declared.object.Kind.TheVariants as kind
use Rattle.ost_types.specs.declared.object.ObjName.{ObjName}
use Rattle.fs_trait.specs.View.{Disk}
use Rattle.repo_model.specs.Objects.{Stores}
use Rattle.reach.specs.Reach.{IsIn, Refers}
use Rattle.reach.specs.Lines.{Reachable}
use Rattle.store_check.specs.Listing.{AreAll, IsThere}
use Rattle.prune_sweep.specs.Lost.{AreLost}
use Rattle.prune_sweep.specs.Sweeping.{AreFront, Sweeping}

-- it stands on the disk and doesn't go
abbrev pub Stays : Disk → Sweeping → ObjName → Type 0
Stays d r o = IsThere d o × ¬ (Contains r.removed o)

-- Of the objects of the store exactly those go that aren't reachable from these to the depth; none of these goes, and nothing that one names
-- which stays. The commits come first.
pub record IsPlanned (d : Disk) (from : List ObjName) (depth : ℕ) (pins : List ObjName) (r : Sweeping) : Type 0 where
  pub there : (o : ObjName) → Contains r.removed o → IsThere d o
  pub only : (o : ObjName) → Contains r.removed o → IsIn (Stores d) o → ¬ (Reachable (Stores d) (Contains from) depth o)
  pub all : (o : ObjName) → IsIn (Stores d) o → Reachable (Stores d) (Contains from) depth o ⊎ Contains r.removed o
  pub roots : (o : ObjName) → Contains from o → ¬ (Contains r.removed o)
  pub closed : (o next : ObjName) → ¬ (Contains r.removed o) → Refers (Stores d) o next → ¬ (Contains r.removed next)
  pub front : AreFront r.removed r.commits
  pub others : (i : ℕ) (o : ObjName) → r.commits < i → i < length r.removed → (slice_index_or r.removed i o).kind ≢ kind.Commit
  pub once : (i j : ℕ) (o : ObjName) → i < length r.removed → j < length r.removed → slice_index_or r.removed i o ≡ o → slice_index_or r.removed j o ≡ o → i ≡ j
  pub names : List ObjName
  pub names_are : AreAll d names
  pub count : r.kept ≡ length names - length r.removed
  pub lost : AreLost d (Stays d r) pins r.marks
