-- Which objects were removed. What is said of an object that stays is said but for these.
use Rattle.std.specs.Prelude.{◌≡◌, ◌⊎◌, List, Contains}
use Rattle.ost_types.specs.declared.object.ObjName.{ObjName}
use Rattle.fs_trait.specs.Seen.{Vacant, shows}
use Rattle.fs_trait.specs.View.{View}
use Rattle.repo_layout.specs.RefFile.{IsSum}
use Rattle.repo_model.specs.Objects.{path_of}

-- from one view to a later one nothing went from an object's path but from the paths of these
abbrev pub RemovesOnly : List ObjName → View → View → Type 0
RemovesOnly removed v w = (o : ObjName) → IsSum o.csum → shows w.now (path_of o) ≡ Vacant → (shows v.now (path_of o) ≡ Vacant) ⊎ Contains removed o

-- each of these objects is one of those
abbrev pub AreAmong : List ObjName → List ObjName → Type 0
AreAmong out more = (o : ObjName) → Contains out o → Contains more o
