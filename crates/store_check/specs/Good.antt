-- What an opening asks of the objects, commits and refs of a disk.
use Rattle.std.specs.Prelude.{ℕ, List}
use Rattle.ost_types.specs.declared.limits.Limits.{Limits}
use Rattle.ost_types.specs.declared.object.ObjName.{ObjName}
use Rattle.fs_trait.specs.View.{Disk}
use Rattle.repo_layout.specs.Refs.{Names}
use Rattle.store_check.specs.Listing.{HasFew}
use Rattle.store_check.specs.Objects.{IsSound}
use Rattle.store_check.specs.Commits.{IsFinished, IsWhole}

-- Each object is what its name says, and there are at most so many; each commit without a mark is whole within the limits, and
-- each ref names a commit that is there and has no mark.
pub record IsGoodStore (limits : Limits) (d : Disk) : Type 0 where
  pub sound : (name : ObjName) → IsSound d limits.content name
  pub few : HasFew d limits.objects
  pub whole : (commit : List ℕ) → IsWhole d limits commit
  pub founded : (name commit : List ℕ) → Names d name commit → IsFinished d commit
