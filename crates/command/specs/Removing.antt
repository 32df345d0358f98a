-- Steps that remove objects, and what they leave.
use Rattle.std.specs.Prelude.{◌≡◌, ◌⊎◌, ℕ, List, Contains, take, true, IsSome}
use Rattle.ost_types.specs.declared.object.ObjName.{ObjName}
use Rattle.ost_types.specs.Path.{Path}
use Rattle.fs_trait.specs.View.{View, all_synced}
use Rattle.fs_trait.specs.Seen.{Seen, Vacant, shows}
use Rattle.repo_model.specs.Objects.{path_of}
use Rattle.rely_guarantee.specs.declared.event.Event.{Event}
use Rattle.rely_guarantee.specs.declared.event.Event.TheVariants.{SetRef, DropRef, Pruned, SetDeployments}
use Rattle.rely_guarantee.specs.Books.{Books}
use Rattle.rely_guarantee.specs.Laws.{Kind, Store, Take, Publish, Published, Remove, MakeDurable}
use Rattle.durable_store.specs.Removals.{AreDifferent, AreKept, Except, IsRemoval}

-- the change removes objects
abbrev pub IsPrune : Event → Type 0
IsPrune (SetRef name seen commit) = ⊥
IsPrune (DropRef name seen) = ⊥
IsPrune (Pruned depth roots held removed) = Unit {0}
IsPrune (SetDeployments change list) = ⊥

-- the step comes behind the one that shows such a change
abbrev pub IsRemoving : Kind → Type 0
IsRemoving (Published e owed) = IsPrune e
IsRemoving (Remove e owed) = Unit {0}
IsRemoving (MakeDurable e) = IsPrune e
IsRemoving kind = ⊥

-- such a step isn't taken while another lane has the lock of those that remove
abbrev pub IsAlone : Kind → Type 0
IsAlone Store = Unit {0}
IsAlone (Take wants) = (wants.exclusive ≡ true) ⊎ (wants.turn ≡ true) ⊎ (wants.shared ≡ true) ⊎ IsSome wants.pin
IsAlone (Publish e) = Unit {0}
IsAlone kind = ⊥

-- what is written takes an object or a mark that isn't kept, where all that others rely on is; or nothing is written
pub record Removes (b : Books) (v : View) (lane : ℕ) (W : Path → Seen → Type 0) : Type 0 where
  pub doomed : List ObjName
  pub kept : AreKept (Except doomed) b v lane
  pub removes : IsRemoval (Except doomed) v W

-- Behind the last step all outlasts a crash, and each object that was removed is gone, each once.
pub record AreRemoved (b : Books) (v w : View) : Type 0 where
  pub synced : w ≡ all_synced v
  pub different : AreDifferent (take b.gone b.doomed)
  pub away : (o : ObjName) → Contains (take b.gone b.doomed) o → shows v.now (path_of o) ≡ Vacant
