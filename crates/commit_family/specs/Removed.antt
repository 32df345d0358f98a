-- A commit that was made, where objects may have been removed since.
use Rattle.std.specs.Prelude.{List, Contains}
use Rattle.ost_types.specs.declared.limits.Limits.{Limits}
use Rattle.ost_types.specs.declared.object.ObjName.{ObjName}
use Rattle.ost_forms.specs.declared.tree_item.TreeItem.{TreeItem}
use Rattle.fs_trait.specs.Seen.{shows}
use Rattle.fs_trait.specs.View.{Disk, View}
use Rattle.repo_model.specs.Objects.{Marked, path_of}
use Rattle.tree_build.specs.Objects.{Object}
use Rattle.commit_build.specs.declared.message.Message.{Message}
use Rattle.commit_build.specs.Committing.{commit_of}
use Rattle.commit_durability.specs.Lasting.{AreRight, IsOf, LastsIn, StandsOn, sum_of}
use Rattle.rely_guarantee.specs.Lasting.{IsSafe, NeverMarked}
use Rattle.rely_guarantee.specs.Objects.{IsObjectSeen}

-- none of these objects is one of the commit
abbrev pub AreSpared : List ObjName → List TreeItem → Message → Type 0
AreSpared out tree message = (o : Object) → IsOf tree message o → ¬ (Contains out o.name)

-- Each object of the commit that wasn't removed outlasts each crash, and whatever a crash leaves at the path of any has its name or is
-- nothing. If the commit itself wasn't removed, no crash leaves a mark of it. If nothing of it was, it lasts as a whole.
pub record LastsBut (out : List ObjName) (limits : Limits) (tree : List TreeItem) (message : Message) (v : View) : Type 0 where
  pub safe : (o : Object) → IsOf tree message o → ¬ (Contains out o.name) → IsSafe v o.name
  pub right : AreRight v tree message
  pub unmarked : ¬ (Contains out (commit_of tree message).name) → NeverMarked (sum_of tree message) v
  pub whole : AreSpared out tree message → LastsIn limits tree message v

-- So it is on a disk.
pub record StandsBut (out : List ObjName) (limits : Limits) (tree : List TreeItem) (message : Message) (d : Disk) : Type 0 where
  pub there : (o : Object) → IsOf tree message o → ¬ (Contains out o.name) → IsObjectSeen o.name.kind o.name.csum (shows d (path_of o.name))
  pub unmarked : ¬ (Contains out (commit_of tree message).name) → ¬ (Marked d (sum_of tree message))
  pub whole : AreSpared out tree message → StandsOn limits tree message d
