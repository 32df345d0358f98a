use Rattle.std.proofs.Common.{arith}
use Rattle.std.proofs.lemmas.Result.{err_from_is_err_and}
use Rattle.ost_forms.specs.Rows.{xattrs_form}
use Rattle.ost_forms.specs.Stream.{header_form}
use Rattle.ost_forms.proofs.RowLists.{fails_part}
use Rattle.ost_forms.proofs.Parts.{slice_at}
use Rattle.ost_forms.proofs.Headers.{six_are, header_count, header_number, header_xattrs, header_found}
use Rattle.ost_forms.proofs.header.read_header.Goals as goal

pub prove-unreachable-requires : goal.prove-unreachable-requires
prove-unreachable-requires c =
    let form = rw (c.in_ok-kind.ensures) at c.in_ok-parts.ensures.found in
    let count = header_count _ _ form in
    grind (arith, count)

pub number_32-requires : goal.number_32-requires
number_32-requires c = header_number _ _ 0 _ (rw (c.in_ok-kind.ensures) at c.in_ok-parts.ensures.found) (omega arith) c.index-3.ensures

pub number_32-requires-2 : goal.number_32-requires-2
number_32-requires-2 c = header_number _ _ 1 _ (rw (c.in_ok-kind.ensures) at c.in_ok-parts.ensures.found) (omega arith) c.index-4.ensures

pub number_32-requires-3 : goal.number_32-requires-3
number_32-requires-3 c = header_number _ _ 2 _ (rw (c.in_ok-kind.ensures) at c.in_ok-parts.ensures.found) (omega arith) c.index-5.ensures

pub number_32-requires-4 : goal.number_32-requires-4
number_32-requires-4 c = header_number _ _ 3 _ (rw (c.in_ok-kind.ensures) at c.in_ok-parts.ensures.found) (omega arith) c.index-6.ensures

pub returns-in_err-xattrs : goal.returns-in_err-xattrs
returns-in_err-xattrs c =
    let p = err_from_is_err_and c.from_residual-in_err-xattrs.result c.from_residual-in_err-xattrs.ensures.1 in
    let form = rw (c.in_ok-kind.ensures) at c.in_ok-parts.ensures.found in
    let own = rw (c.in_ok-kind.ensures) at c.in_ok-parts.ensures.own in
    let count = header_count _ _ form in
    let at = slice_at c.in_ok-parts.parts.items 5 c.index-2.result.now (omega (arith, count)) c.index-2.ensures in
    rw (p.1, p.2) (fails_part (λ h. h) (λ x. x) header_form xattrs_form _ _ c.in_err-xattrs.field-0.0 (header_xattrs _ _ _ at own) c.in_err-xattrs.ensures)

pub returns : goal.returns
returns c =
    let form = rw (c.in_ok-kind.ensures) at c.in_ok-parts.ensures.found in
    let parts = six_are _ _ _ _ _ _ _ (header_count _ _ form) c.index-3.ensures c.index-4.ensures c.index-5.ensures c.index-6.ensures c.index.ensures c.index-2.ensures in
    header_found _ _ _ _ _ (rw (c.number_32.ensures, c.number_32-2.ensures, c.number_32-3.ensures, c.number_32-4.ensures) parts) c.in_ok-target.ensures c.in_ok-xattrs.ensures form
