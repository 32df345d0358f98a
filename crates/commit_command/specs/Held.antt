-- What a commit that runs has stored or found of its objects: it is pinned for the lane, and stands at its path.
use Rattle.std.specs.Prelude.{◌≡◌, ◌⊎◌, ◌<◌, ℕ, Option, Some, None}
use Rattle.ost_types.specs.declared.object.ObjName.{ObjName}
use Rattle.fs_trait.specs.declared.types.Value.TheVariants.{Absent}
use Rattle.fs_trait.specs.View.{View}
use Rattle.repo_model.specs.Objects.{path_of}
use Rattle.tree_build.specs.Objects.{Object}
use Rattle.obj_store.specs.declared.phase.Put.{Put}
use Rattle.obj_store.specs.declared.phase.Put.TheVariants.{Stored}
use Rattle.commit_build.specs.declared.phase.Phase.{Phase}
use Rattle.commit_build.specs.declared.phase.Phase.TheVariants as phase
use Rattle.commit_build.specs.Committing.{Committing, IsEnded}
use Rattle.commit_build.specs.Steps.{AreSure, IsSure, IsThere, NeverMarked}
use Rattle.commit_build.specs.Whole.{its_commit, IsOfCommit}
use Rattle.commit_build.proofs.Stable.{Relies}
use Rattle.rely_guarantee.specs.Books.{Books}
use Rattle.commit_command.specs.declared.naming.Naming.{Naming}
use Rattle.commit_command.specs.declared.command.CommitCommand.{CommitCommand}
use Rattle.commit_command.specs.Kinds.{met_in}
use Rattle.commit_command.specs.Facts.{Pinned}

-- the objects that the commit has stored or found so far: those of its tree that were put, its own once it was; all, once it is built
abbrev pub behind_by : Option Naming → Committing → Object → Type 0
behind_by None t o = Relies t o
behind_by (Some n) t o = IsOfCommit t o

abbrev pub HasBehind : CommitCommand → Object → Type 0
HasBehind t o = behind_by t.change t.build o

-- behind the sync of the tree's objects
abbrev pub IsTreeSynced : Phase → Type 0
IsTreeSynced phase.Check = ⊥
IsTreeSynced phase.Make = ⊥
IsTreeSynced (phase.Made c) = ⊥
IsTreeSynced (phase.Put p) = ⊥
IsTreeSynced phase.SyncObjects = ⊥
IsTreeSynced ph = Unit {0}

-- and behind that of the commit's own
abbrev pub IsCommitSynced : Phase → Type 0
IsCommitSynced (phase.Unmark sum) = Unit {0}
IsCommitSynced (phase.SyncState sum) = Unit {0}
IsCommitSynced (phase.Ended sum) = Unit {0}
IsCommitSynced ph = ⊥

-- the build has come so far, or its ref is changed
abbrev pub once_in : (Phase → Type 0) → Option Naming → Committing → Type 0
once_in Has None t = Has t.phase
once_in Has (Some n) t = Unit {0}

-- Each object that was stored or found is pinned for the lane, and something stands at its path; what the last step met is one of
-- them. No crash leaves one of the tree away once they were synced, nor the commit once it was, and none leaves a mark of it once it is
-- built.
pub record AreHeldBy (change : Option Naming) (lane : ℕ) (t : Committing) (v : View) (b : Books) : Type 0 where
  pub pinned : (o : Object) → behind_by change t o → Pinned lane b o.name
  pub there : (o : Object) → behind_by change t o → IsThere v.now o.name
  pub met : (name : ObjName) (put : Put) → met_in change t ≡ Some (name, put) → (o : Object) × behind_by change t o × (o.name ≡ name)
  pub tree : once_in IsTreeSynced change t → AreSure t.items v
  pub commit : once_in IsCommitSynced change t → IsSure v (its_commit t).name
  pub unmarked : once_in IsEnded change t → NeverMarked (its_commit t).name.csum v

abbrev pub AreHeld : ℕ → CommitCommand → View → Books → Type 0
AreHeld lane t v b = AreHeldBy t.change lane t.build v b

-- nothing stood at the object's path, and the store had room for one more by the count that was told
abbrev pub WasLacking : CommitCommand → ObjName → View → Type 0
WasLacking t name v = (t.objects < t.build.limits.objects) × (v.now.at (path_of name) ≡ Absent)

-- the step stored the object, or nothing changed
abbrev pub StoredThere : CommitCommand → ObjName → View → View → Type 0
StoredThere new name v w = (w ≡ v) ⊎ (met_in new.change new.build ≡ Some (name, Stored))
