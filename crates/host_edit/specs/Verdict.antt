-- What comes of a look at the path, by what is to stand there and what was found.
use Rattle.host_edit.specs.declared.change.Change.{Change}
use Rattle.host_edit.specs.declared.change.Change.TheVariants.{File, Link, Folder, Nothing}
use Rattle.host_edit.specs.declared.phase.Phase.TheVariants as phase
use Rattle.host_edit.specs.declared.there.There.{There}
use Rattle.host_edit.specs.declared.there.There.TheVariants as there
use Rattle.host_edit.specs.declared.verdict.Verdict.{Verdict}
use Rattle.host_edit.specs.declared.verdict.Verdict.TheVariants.{Goes, NoParent, NoPath, NotEmpty, KindClash}

abbrev pub at_vacant : Change → Verdict
at_vacant (File d) = Goes phase.Replace
at_vacant (Link m t) = Goes phase.Replace
at_vacant (Folder m) = Goes phase.MakeFolder
at_vacant Nothing = NoPath

abbrev pub at_leaf : Change → Verdict
at_leaf (File d) = Goes phase.Replace
at_leaf (Link m t) = Goes phase.Replace
at_leaf (Folder m) = KindClash
at_leaf Nothing = Goes phase.Unlink

abbrev pub at_folder : Verdict → Change → Verdict
at_folder removal (File d) = KindClash
at_folder removal (Link m t) = KindClash
at_folder removal (Folder m) = KindClash
at_folder removal Nothing = removal

abbrev pub judge : Change → There → Verdict
judge c there.NoFolder = NoParent
judge c there.Vacant = at_vacant c
judge c there.Leaf = at_leaf c
judge c there.EmptyFolder = at_folder (Goes phase.RemoveFolder) c
judge c there.FullFolder = at_folder NotEmpty c
