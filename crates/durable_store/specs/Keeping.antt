-- What a run of acts keeps of the store, and of each disk that a crash left meanwhile.
use Rattle.std.specs.Prelude.{◌≤◌, ℕ, List, length}
use Rattle.ost_types.specs.declared.limits.Limits.{Limits}
use Rattle.ost_types.specs.declared.object.ObjName.{ObjName}
use Rattle.fs_trait.specs.View.{Disk, View}
use Rattle.fs_trait.specs.Seen.{Seen, shows}
use Rattle.fs_trait.specs.Change.{Left}
use Rattle.repo_layout.specs.Paths.{config_path}
use Rattle.repo_layout.specs.Refs.{Names}
use Rattle.repo_model.specs.Objects.{Store}
use Rattle.store_check.specs.Commits.{IsFinished, IsWhole}
use Rattle.store_check.specs.Listing.{HasFew}
use Rattle.store_check.specs.Objects.{IsSound}
use Rattle.durable_store.specs.Brought.{NoHashCollisionOn}
use Rattle.durable_store.specs.Standing.{StoreStands}

-- Each object of the disk is what its name says, and there are no more than may be; each ref names a commit that is there and has no mark; of
-- the configuration this is so; and each commit without a mark is whole, if no other bytes there have the name of bytes that are brought.
pub record IsGoodDisk (limits : Limits) (brings : Store) (config : Seen → Type 0) (d : Disk) : Type 0 where
  pub sound : (name : ObjName) → IsSound d limits.content name
  pub few : HasFew d limits.objects
  pub founded : (name commit : List ℕ) → Names d name commit → IsFinished d commit
  pub same : config (shows d config_path)
  pub whole : NoHashCollisionOn brings d → (commit : List ℕ) → IsWhole d limits commit

-- The store stands so in the view now, with no more names than objects may be, and each disk that a crash left at this moment or later is good.
pub record KeepsGood (was : ℕ → View → Type 0) (limits : Limits) (brings : Store) (config : Seen → Type 0) (names : List ObjName) (moment : ℕ) (v : View) : Type 0 where
  pub now : StoreStands limits brings config names v
  pub few : length names ≤ limits.objects
  pub since : (t : ℕ) (d : Disk) → moment ≤ t → Left was t d → IsGoodDisk limits brings config d
