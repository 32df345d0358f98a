-- What is known of a marking hangs on what the paths of objects show, and on nothing else.
use Rattle.std.specs.Prelude.{◌≡◌}
use Rattle.ost_types.specs.declared.object.ObjName.{ObjName}
use Rattle.fs_trait.specs.View.{Disk}
use Rattle.fs_trait.specs.Seen.{shows}
use Rattle.repo_layout.specs.RefFile.{IsSum}
use Rattle.repo_model.specs.Objects.{path_of}

-- the path of each object shows on the second disk what it shows on the first
abbrev pub ShowSameObjects : Disk → Disk → Type 0
ShowSameObjects d e = (o : ObjName) → IsSum o.csum → shows e (path_of o) ≡ shows d (path_of o)
