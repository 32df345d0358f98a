use Rattle.std.proofs.Common.{Vec, Global}
use Rattle.std.proofs.lemmas.Result.{err_from_is_err_and}
use Rattle.std.proofs.lemmas.List.{map_push}
use Rattle.std.specs.Prelude.{map}
use Rattle.gv_core.specs.Container.{container_form}
use Rattle.gv_core.proofs.Raws.{step_at}
use Rattle.ost_forms.specs.declared.object_type.ObjectType.TheVariants as types
use Rattle.ost_forms.specs.TypeText.{type_text}
use Rattle.ost_forms.specs.DirTree.{file_form, files_form}
use Rattle.ost_forms.specs.declared.row.FileRow.{FileRow}
use Rattle.ost_forms.specs.FileRow.{file_of}
use Rattle.ost_forms.proofs.RowLists.{reading_next, fails_part, row_of}
use Rattle.ost_forms.proofs.rows.read_files.Goals as goal

pub loop-part-preserved : goal.loop-part-preserved
loop-part-preserved c =
    rw (c.in_ok-push.ensures.items, map_push file_of c.loop-part.rows.items c.in_ok-read_file.field-0)
    (reading_next file_form _ _ _ _ _ _ c.loop-part.invariant (step_at _ _ _ c.loop-part-test.true) c.in_ok-read_file.ensures)

pub returns-in_err-read_file : goal.returns-in_err-read_file
returns-in_err-read_file c =
    let p = err_from_is_err_and c.from_residual-in_err-read_file.result c.from_residual-in_err-read_file.ensures.1 in
    let own = rw (c.in_ok-list_kind.ensures, ← c.deref-part-items.ensures.value) at c.in_ok-parts.ensures.own in
    let at = step_at _ _ _ c.loop-part-test.true in
    rw (p.1, p.2) (fails_part (λ (v : Vec FileRow Global). map file_of v.items) file_of files_form file_form _ _ c.in_err-read_file.field-0.0 (row_of file_form (container_form (type_text types.Files)) _ _ _ _ _ _ own c.loop-part.invariant at) c.in_err-read_file.ensures)
