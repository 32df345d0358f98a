use Rattle.std.proofs.Common.{arith, length, ◌<◌, ◌^◌}
use Rattle.std.proofs.lemmas.Result.{err_from_is_err_and}
use Rattle.gv_core.specs.Layout.{normal_form}
use Rattle.gv_core.specs.Tree.{view}
use Rattle.ost_forms.specs.TypeText.{type_text}
use Rattle.ost_forms.specs.Commit.{inner_form, only_of}
use Rattle.ost_forms.proofs.RowLists.{fails_part}
use Rattle.ost_forms.proofs.Alone.{read_one, member_found, has_whole}
use Rattle.ost_forms.proofs.inner_value.read_inner.Goals as goal

pub only_member-requires : goal.only_member-requires
only_member-requires c = read_one _ _ _ c.requires (rw c.in_ok-kind.ensures at c.in_ok-value.ensures)

pub returns-in_err-value : goal.returns-in_err-value
returns-in_err-value c =
    let short : length c.args.bytes.now < 2 ^ 64 = omega (arith, c.if-prove.false) in
    let p = err_from_is_err_and c.from_residual-in_err-value.result c.from_residual-in_err-value.ensures.1 in
    rw (p.1, p.2) (fails_part view view (inner_form (type_text (only_of c.args.whole))) (normal_form c.in_ok-kind.kind) _ _ c.in_err-value.field-0.0 (λ v e. let q = has_whole c.args.whole c.args.bytes.now c.requires short v e in (q.0, rw c.in_ok-kind.ensures q.1)) c.in_err-value.ensures)

pub returns : goal.returns
returns c = member_found _ _ _ _ c.requires (rw c.in_ok-kind.ensures at c.in_ok-value.ensures) c.only_member.ensures
