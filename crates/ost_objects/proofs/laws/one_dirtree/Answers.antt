use Rattle.std.proofs.Common.{ap}
use Rattle.ost_forms.specs.DirTree.{Entries}
use Rattle.ost_forms.proofs.Laws.{one_tree}
use Rattle.ost_objects.proofs.laws.one_dirtree.Goals as goal

pub returns : goal.returns
returns c = λ bytes e f. let same = one_tree _ _ bytes e f in (ap (λ (t : Entries). t.files) same, ap (λ (t : Entries). t.folders) same)
