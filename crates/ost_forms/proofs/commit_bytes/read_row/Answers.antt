use Rattle.std.proofs.Common.{arith, Some}
use Rattle.std.proofs.lemmas.Result.{err_from_is_err_and}
use Rattle.gv_core.specs.Layout.{text_bytes}
use Rattle.gv_core.specs.Tree.{view}
use Rattle.ost_forms.specs.Commit.{CommitParts, commit_form, metadata_form, related_form, parts_from}
use Rattle.ost_forms.specs.CommitRow.{row_parts}
use Rattle.ost_forms.proofs.RowLists.{fails_part}
use Rattle.ost_forms.proofs.Parts.{slice_at}
use Rattle.ost_forms.proofs.Commits.{commit_count, commit_number, commit_metadata, commit_related, commit_subject, commit_body, eight_are, commit_found}
use Rattle.ost_forms.proofs.commit_bytes.read_row.Goals as goal

pub prove-unreachable-requires : goal.prove-unreachable-requires
prove-unreachable-requires c =
    let form = rw (c.in_ok-kind.ensures) at c.in_ok-parts.ensures.found in
    let count = commit_count _ _ form in
    grind (arith, count)

pub returns-in_err-subject : goal.returns-in_err-subject
returns-in_err-subject c =
    let p = err_from_is_err_and c.from_residual-in_err-subject.result c.from_residual-in_err-subject.ensures.1 in
    let form = rw (c.in_ok-kind.ensures) at c.in_ok-parts.ensures.found in
    let own = rw (c.in_ok-kind.ensures) at c.in_ok-parts.ensures.own in
    let count = commit_count _ _ form in
    let at = slice_at c.in_ok-parts.parts.items 3 c.index.result.now (omega (arith, count)) c.index.ensures in
    rw (p.1, p.2) (fails_part row_parts (λ x. x) commit_form text_bytes _ _ c.in_err-subject.field-0.0 (λ v e. commit_subject _ _ own v e _ at) c.in_err-subject.ensures)

pub returns-in_err-body : goal.returns-in_err-body
returns-in_err-body c =
    let p = err_from_is_err_and c.from_residual-in_err-body.result c.from_residual-in_err-body.ensures.1 in
    let form = rw (c.in_ok-kind.ensures) at c.in_ok-parts.ensures.found in
    let own = rw (c.in_ok-kind.ensures) at c.in_ok-parts.ensures.own in
    let count = commit_count _ _ form in
    let at = slice_at c.in_ok-parts.parts.items 4 c.index-2.result.now (omega (arith, count)) c.index-2.ensures in
    rw (p.1, p.2) (fails_part row_parts (λ x. x) commit_form text_bytes _ _ c.in_err-body.field-0.0 (λ v e. commit_body _ _ own v e _ at) c.in_err-body.ensures)

pub returns-in_err-related : goal.returns-in_err-related
returns-in_err-related c =
    let p = err_from_is_err_and c.from_residual-in_err-related.result c.from_residual-in_err-related.ensures.1 in
    let form = rw (c.in_ok-kind.ensures) at c.in_ok-parts.ensures.found in
    let own = rw (c.in_ok-kind.ensures) at c.in_ok-parts.ensures.own in
    let count = commit_count _ _ form in
    let at = slice_at c.in_ok-parts.parts.items 2 c.index-3.result.now (omega (arith, count)) c.index-3.ensures in
    rw (p.1, p.2) (fails_part row_parts view commit_form related_form _ _ c.in_err-related.field-0.0 (λ v e. commit_related _ _ own v e _ at) c.in_err-related.ensures)

pub returns-in_err-metadata : goal.returns-in_err-metadata
returns-in_err-metadata c =
    let p = err_from_is_err_and c.from_residual-in_err-metadata.result c.from_residual-in_err-metadata.ensures.1 in
    let form = rw (c.in_ok-kind.ensures) at c.in_ok-parts.ensures.found in
    let own = rw (c.in_ok-kind.ensures) at c.in_ok-parts.ensures.own in
    let count = commit_count _ _ form in
    let at = slice_at c.in_ok-parts.parts.items 0 c.index-4.result.now (omega (arith, count)) c.index-4.ensures in
    rw (p.1, p.2) (fails_part row_parts view commit_form metadata_form _ _ c.in_err-metadata.field-0.0 (λ v e. commit_metadata _ _ own v e _ at) c.in_err-metadata.ensures)

pub number_64-requires : goal.number_64-requires
number_64-requires c = commit_number _ _ _ (rw (c.in_ok-kind.ensures) at c.in_ok-parts.ensures.found) c.index-6.ensures

pub returns : goal.returns
returns c =
    let form = rw (c.in_ok-kind.ensures) at c.in_ok-parts.ensures.found in
    let parts = eight_are _ _ _ _ _ _ _ _ _ (commit_count _ _ form) c.index-4.ensures c.index-5.ensures c.index-3.ensures c.index.ensures c.index-2.ensures c.index-6.ensures c.index-7.ensures c.index-8.ensures in
    let row : CommitParts = parts_from (view c.in_ok-metadata.metadata) (Some c.index-5.result.now.now) (view c.in_ok-related.related) c.in_ok-subject.subject c.in_ok-body.body c.number_64.result c.index-7.result.now.now c.index-8.result.now.now in
    commit_found row _ _ _ _ _ _ (rw (c.number_64.ensures) parts) c.in_ok-metadata.ensures c.in_ok-related.ensures c.in_ok-subject.ensures c.in_ok-body.ensures form
