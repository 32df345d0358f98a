use Rattle.std.proofs.Common.{arith}
use Rattle.std.specs.Prelude.{map}
use Rattle.std.proofs.Common.{Vec, Global}
use Rattle.std.proofs.lemmas.Result.{err_from_is_err_and}
use Rattle.ost_forms.specs.declared.row.FolderRow.{FolderRow}
use Rattle.ost_forms.specs.DirTree.{tree_form, folders_form}
use Rattle.ost_forms.specs.FileRow.{folder_of, entries_of}
use Rattle.ost_forms.proofs.RowLists.{fails_part}
use Rattle.ost_forms.proofs.Parts.{slice_at, tree_count, tree_folders}
use Rattle.ost_forms.proofs.dirtree.read_rows.Goals as goal

pub prove-unreachable-requires : goal.prove-unreachable-requires
prove-unreachable-requires c =
    let form = rw (c.in_ok-kind.ensures) at c.in_ok-parts.ensures.found in
    let count = tree_count _ _ form in
    grind (arith, count)

pub returns-in_err-folders : goal.returns-in_err-folders
returns-in_err-folders c =
    let p = err_from_is_err_and c.from_residual-in_err-folders.result c.from_residual-in_err-folders.ensures.1 in
    let form = rw (c.in_ok-kind.ensures) at c.in_ok-parts.ensures.found in
    let own = rw (c.in_ok-kind.ensures) at c.in_ok-parts.ensures.own in
    let count = tree_count _ _ form in
    let at = slice_at c.in_ok-parts.parts.items 1 c.index-2.result.now (omega (arith, count)) c.index-2.ensures in
    rw (p.1, p.2) (fails_part entries_of (λ (v : Vec FolderRow Global). map folder_of v.items) tree_form folders_form _ _ c.in_err-folders.field-0.0 (tree_folders _ _ _ at own) c.in_err-folders.ensures)
