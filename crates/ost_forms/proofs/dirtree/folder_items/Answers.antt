use Rattle.std.proofs.Common.{ap, ◌∙◌, map, sym, subst}
use Rattle.std.proofs.lemmas.List.{take_all}
use Rattle.ost_forms.specs.DirTree.{AreFolders}
use Rattle.ost_forms.specs.FileRow.{folder_of}
use Rattle.ost_forms.proofs.Entries.{folders_are}
use Rattle.ost_forms.proofs.dirtree.folder_items.Goals as goal

pub from_vec-requires : goal.from_vec-requires
from_vec-requires c =
    let all = c.loop-row.invariant ∙ ap (map folder_of) (take_all _ _ c.loop-row-test.false) in
    rw all (folders_are _ c.requires.sums c.requires.names c.requires.ascending)
