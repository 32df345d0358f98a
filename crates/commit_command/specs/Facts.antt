-- What is so for a commit while others act.
use Rattle.std.specs.Prelude.{◌≡◌, ℕ, true, List, Contains, Option, Some, None}
use Rattle.ost_types.specs.declared.object.ObjName.{ObjName}
use Rattle.fs_trait.specs.View.{View}
use Rattle.obj_store.specs.declared.phase.Put.{Put}
use Rattle.tree_build.specs.Items.{IsTree}
use Rattle.tree_build.specs.Objects.{Object}
use Rattle.commit_build.specs.Committing.{Committing, storing_in}
use Rattle.commit_build.specs.Steps.{Needs, AreSure, IsSure, NeverMarked}
use Rattle.commit_build.specs.Whole.{its_commit, IsOfCommit}
use Rattle.commit_build.proofs.Stable.{Relies}
use Rattle.rely_guarantee.specs.Books.{Books}
use Rattle.commit_command.specs.declared.naming.Naming.{Naming}
use Rattle.ref_command.specs.Facts.{Facts}
use Rattle.commit_command.specs.declared.command.CommitCommand.{CommitCommand}
use Rattle.commit_command.specs.Kinds.{planned}

-- the lane has pinned the object
abbrev pub Pinned : ℕ → Books → ObjName → Type 0
Pinned lane b name = Contains b.pins (record { lane = lane; object = name })

-- No crash leaves the commit or an object of its tree away, and none leaves a mark of it.
pub record Lasts (t : Committing) (v : View) : Type 0 where
  pub tree : AreSure t.items v
  pub commit : IsSure v (its_commit t).name
  pub unmarked : NeverMarked (its_commit t).name.csum v

-- an object of this name is one that the build stored or found: the rest of its way relies on it
abbrev pub Has : Committing → ObjName → Type 0
Has t name = (o : Object) × Relies t o × (o.name ≡ name)

-- While the commit is built: what the build needs; that the lane builds it; that what its last step met is among the objects that it
-- stored or found; that each object on which the rest of the way relies is pinned, and the one that is being put once it was looked
-- for; and what the change of the ref will need.
pub record Building (lane : ℕ) (t : CommitCommand) (v : View) (b : Books) : Type 0 where
  pub needs : Needs t.build v
  pub mine : t.build.actor ≡ lane
  pub met : (name : ObjName) (put : Put) → t.build.met ≡ Some (name, put) → Has t.build name
  pub pins : (o : Object) → Relies t.build o → Pinned lane b o.name
  pub held : t.pinned ≡ true → (name : ObjName) → storing_in t.build.phase ≡ Some name → Pinned lane b name
  pub change : (commit : List ℕ) → Facts lane (planned t commit).work.task v b

-- the change is that of the ref, from the commit's parent to the commit
pub record IsChange (t : CommitCommand) (n : Naming) : Type 0 where
  pub commit : n.commit ≡ (its_commit t.build).name.csum
  pub name : n.work.task.name ≡ t.name
  pub seen : n.work.task.seen ≡ t.build.message.parent
  pub value : n.work.task.value ≡ Some n.commit

-- While the ref is changed: what the change needs; that the commit is built, and lasts; and that all its objects are pinned.
pub record Changing (lane : ℕ) (t : CommitCommand) (n : Naming) (v : View) (b : Books) : Type 0 where
  pub ref : Facts lane n.work.task v b
  pub of : IsChange t n
  pub tree : IsTree t.build.items
  pub lasts : Lasts t.build v
  pub pins : (o : Object) → IsOfCommit t.build o → Pinned lane b o.name

abbrev pub facts_by : Option Naming → ℕ → CommitCommand → View → Books → Type 0
facts_by None lane t v b = Building lane t v b
facts_by (Some n) lane t v b = Changing lane t n v b

abbrev pub commit_facts : ℕ → CommitCommand → View → Books → Type 0
commit_facts lane t v b = facts_by t.change lane t v b
