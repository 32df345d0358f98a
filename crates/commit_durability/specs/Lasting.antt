-- What is so of a commit from the moment on at which it was made.
use Rattle.std.specs.Prelude.{◌≡◌, ◌≢◌, ◌⊎◌, ◌↔◌, ◌≤◌, ℕ, List, Some}
use Rattle.ost_types.specs.declared.limits.Limits.{Limits}
use Rattle.ost_types.specs.declared.node.NodeName.{NodeName}
use Rattle.ost_types.specs.declared.object.Kind.TheVariants.{Commit}
use Rattle.ost_types.specs.declared.object.ObjName.{ObjName}
use Rattle.ost_types.specs.Path.{Path}
use Rattle.ost_forms.specs.declared.tree_item.TreeItem.{TreeItem}
use Rattle.ost_objects.specs.Object.{IsNamed}
use Rattle.fs_trait.specs.View.{Disk, View}
use Rattle.fs_trait.specs.Seen.{Seen, shows, MayBe}
use Rattle.fs_trait.specs.Change.{Left}
use Rattle.repo_model.specs.Objects.{Store, Stores, Marked, object_in, path_of}
use Rattle.repo_model.specs.Trees.{TreeShows, name_of}
use Rattle.repo_model.specs.Whole.{Complete}
use Rattle.reach.specs.Reach.{Is, Reach}
use Rattle.tree_build.specs.Building.{IsNumber}
use Rattle.tree_build.specs.Commits.{ItemShows}
use Rattle.tree_build.specs.Items.{AreItems, AreTyped, IsTree}
use Rattle.tree_build.specs.Makeable.{AreMakeable}
use Rattle.tree_build.specs.Objects.{Object, work}
use Rattle.commit_build.specs.declared.message.Message.{Message}
use Rattle.commit_build.specs.Committing.{ReadsBack, commit_of}
use Rattle.rely_guarantee.specs.Lasting.{AlwaysStores, IsRight, IsSafe, NeverMarked}
use Rattle.rely_guarantee.specs.Objects.{IsObjectSeen}

-- an object that the commit consists of: one of its tree, or its own
abbrev pub IsOf : List TreeItem → Message → Object → Type 0
IsOf tree message o = ((n : ℕ) × IsNumber (work tree) n o) ⊎ (o ≡ commit_of tree message)

abbrev pub sum_of : List TreeItem → Message → List ℕ
sum_of tree message = (commit_of tree message).name.csum

-- The items are a tree within the bounds, and the commit's bytes read as it.
pub record IsCommit (limits : Limits) (tree : List TreeItem) (message : Message) : Type 0 where
  pub items : AreItems tree
  pub typed : AreTyped tree
  pub whole : IsTree tree
  pub makeable : AreMakeable limits tree
  pub reads : ReadsBack tree message

-- The store has all objects of the commit: so the commit is complete there, and its tree is the items.
pub record IsStored (S : Store) (limits : Limits) (tree : List TreeItem) (message : Message) : Type 0 where
  pub objects : (o : Object) → IsOf tree message o → S o.name o.bytes
  pub complete : Complete S limits (sum_of tree message)
  pub shown : (p : Path) (n : NodeName) → TreeShows S (sum_of tree message) p n ↔ ItemShows tree p n

-- No other bytes that stand on the disk have the name of an object of the commit, which is their SHA-256.
abbrev pub IsAloneOn : Disk → List TreeItem → Message → Type 0
IsAloneOn d tree message = (o : Object) → IsOf tree message o → (bytes : List ℕ) → Stores d o.name bytes → bytes ≡ o.bytes

-- nor do any that a crash may leave
abbrev pub IsAloneIn : View → List TreeItem → Message → Type 0
IsAloneIn v tree message = (o : Object) → IsOf tree message o → (s : Seen) (bytes : List ℕ) → MayBe v (path_of o.name) s → object_in o.name.kind s ≡ Some bytes → IsNamed o.name bytes → bytes ≡ o.bytes

-- what a crash leaves at the paths of the commit's objects has their names, or is nothing
abbrev pub AreRight : View → List TreeItem → Message → Type 0
AreRight v tree message = (o : Object) → IsOf tree message o → IsRight v o.name

-- the objects of the commit that a crash may leave with the right bytes
abbrev pub MayRight : View → List TreeItem → Message → Store
MayRight v tree message name bytes =
    ((o : Object) × IsOf tree message o × (o.name ≡ name) × (o.bytes ≡ bytes)) × (s : Seen) × MayBe v (path_of name) s × (object_in name.kind s ≡ Some bytes)

-- each object that is reached from the commit over right bytes no crash leaves away
abbrev pub IsHeldUp : View → List TreeItem → Message → Type 0
IsHeldUp v tree message = (o : ObjName) → o.kind ≢ Commit → Reach (MayRight v tree message) (Is (name_of Commit (sum_of tree message))) o → IsSafe v o

-- Each crash leaves an object of each name of the commit's, and so the commit whole, where no other bytes have such a name; and
-- none leaves a mark of it.
pub record LastsIn (limits : Limits) (tree : List TreeItem) (message : Message) (v : View) : Type 0 where
  pub commit : IsCommit limits tree message
  pub safe : (o : Object) → IsOf tree message o → IsSafe v o.name
  pub right : AreRight v tree message
  pub unmarked : NeverMarked (sum_of tree message) v
  pub held : IsHeldUp v tree message
  pub stored : IsAloneIn v tree message → IsStored (AlwaysStores v) limits tree message

-- So it is on a disk.
pub record StandsOn (limits : Limits) (tree : List TreeItem) (message : Message) (d : Disk) : Type 0 where
  pub there : (o : Object) → IsOf tree message o → IsObjectSeen o.name.kind o.name.csum (shows d (path_of o.name))
  pub unmarked : Marked d (sum_of tree message) → ⊥
  pub stored : IsAloneOn d tree message → IsStored (Stores d) limits tree message

-- The commit lasts in the view now, and stands on each disk that a crash at that moment, or later, left.
pub record IsKept (was : ℕ → View → Type 0) (limits : Limits) (tree : List TreeItem) (message : Message) (moment : ℕ) (v : View) : Type 0 where
  pub now : LastsIn limits tree message v
  pub since : (t : ℕ) (d : Disk) → moment ≤ t → Left was t d → StandsOn limits tree message d
