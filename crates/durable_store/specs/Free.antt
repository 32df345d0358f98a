-- Where no folder stands.
use Rattle.ost_types.specs.declared.object.ObjName.{ObjName}
use Rattle.fs_trait.specs.View.{Disk}
use Rattle.fs_trait.specs.Seen.{NotDirectory, shows}
use Rattle.repo_layout.specs.RefFile.{IsSum}
use Rattle.repo_model.specs.Objects.{path_of}

-- none stands at the path of an object
abbrev pub ObjectPathsFree : Disk → Type 0
ObjectPathsFree d = (o : ObjName) → IsSum o.csum → NotDirectory (shows d (path_of o))
