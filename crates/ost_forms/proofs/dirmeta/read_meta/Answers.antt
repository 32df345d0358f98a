use Rattle.std.proofs.Common.{arith}
use Rattle.std.proofs.lemmas.Result.{err_from_is_err_and}
use Rattle.ost_forms.specs.Rows.{xattrs_form}
use Rattle.ost_forms.specs.DirMeta.{dirmeta_form}
use Rattle.ost_forms.proofs.RowLists.{fails_part}
use Rattle.ost_forms.proofs.Parts.{dirmeta_count, dirmeta_number, dirmeta_xattrs, dirmeta_found, four_are}
use Rattle.ost_forms.proofs.dirmeta.read_meta.Goals as goal

pub prove-unreachable-requires : goal.prove-unreachable-requires
prove-unreachable-requires c =
    let form = rw (c.in_ok-kind.ensures) at c.in_ok-parts.ensures.found in
    let count = dirmeta_count _ _ form in
    grind (arith, count)

pub number_32-requires : goal.number_32-requires
number_32-requires c = dirmeta_number _ _ 0 _ (rw (c.in_ok-kind.ensures) at c.in_ok-parts.ensures.found) (omega arith) c.index.ensures

pub number_32-requires-2 : goal.number_32-requires-2
number_32-requires-2 c = dirmeta_number _ _ 1 _ (rw (c.in_ok-kind.ensures) at c.in_ok-parts.ensures.found) (omega arith) c.index-2.ensures

pub number_32-requires-3 : goal.number_32-requires-3
number_32-requires-3 c = dirmeta_number _ _ 2 _ (rw (c.in_ok-kind.ensures) at c.in_ok-parts.ensures.found) (omega arith) c.index-3.ensures

pub returns-in_err-read_xattrs : goal.returns-in_err-read_xattrs
returns-in_err-read_xattrs c =
    let p = err_from_is_err_and c.from_residual-in_err-read_xattrs.result c.from_residual-in_err-read_xattrs.ensures.1 in
    let form = rw (c.in_ok-kind.ensures) at c.in_ok-parts.ensures.found in
    let own = rw (c.in_ok-kind.ensures) at c.in_ok-parts.ensures.own in
    let parts = four_are _ _ _ _ _ (dirmeta_count _ _ form) c.index.ensures c.index-2.ensures c.index-3.ensures c.index-4.ensures in
    rw (p.1, p.2) (fails_part (λ m. m) (λ x. x) dirmeta_form xattrs_form _ _ c.in_err-read_xattrs.field-0.0 (dirmeta_xattrs _ _ _ _ _ _ parts own) c.in_err-read_xattrs.ensures)

pub returns : goal.returns
returns c =
    let form = rw (c.in_ok-kind.ensures) at c.in_ok-parts.ensures.found in
    let parts = four_are _ _ _ _ _ (dirmeta_count _ _ form) c.index.ensures c.index-2.ensures c.index-3.ensures c.index-4.ensures in
    dirmeta_found _ _ _ _ (rw (c.number_32.ensures, c.number_32-2.ensures, c.number_32-3.ensures) parts) c.in_ok-read_xattrs.ensures form
