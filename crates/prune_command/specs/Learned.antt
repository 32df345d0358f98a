-- Where a prune begins: at what refs name, and at what other lanes have pinned.
use Rattle.std.specs.Prelude.{◌≡◌, ◌++◌, ℕ, List, map}
use Rattle.ost_types.specs.declared.object.Kind.TheVariants.{Commit}
use Rattle.ost_types.specs.declared.object.ObjName.{ObjName}
use Rattle.repo_model.specs.Trees.{name_of}
use Rattle.boot_model.specs.declared.item.DepId.{DepId}
use Rattle.rely_guarantee.specs.declared.books.Pin.{Pin}
use Rattle.rely_guarantee.specs.State.{State}
use Rattle.ref_book.specs.declared.book.RefBook.{RefBook}
use Rattle.ref_book.specs.Tracks.{Lists, Tracks}
use Rattle.prune_command.specs.declared.known.Known.{Known}

abbrev pub object_of : Pin → ObjName
object_of p = p.object

-- the commit of a ref
abbrev pub commit_of : List ℕ × List ℕ → ObjName
commit_of row = name_of Commit row.1

abbrev pub from_of : Known → List ObjName
from_of k = k.roots ++ k.held

-- the commit of a deployment
abbrev pub deployed_of : DepId → ObjName
deployed_of id = name_of Commit id.commit

-- they are the commits that all refs of the book name, and those of the deployments
abbrev pub AreOfState : RefBook → List DepId → List ObjName → Type 0
AreOfState refs ids roots = (rows : List (List ℕ × List ℕ)) × ((s : State) → Tracks refs s → Lists rows s) × (roots ≡ map commit_of rows ++ map deployed_of ids)
