use Rattle.std.proofs.Common.{◌++◌, sym, ap, ◌∙◌, append_assoc}
use Rattle.gv_core.specs.Layout.{le, table_back}
use Rattle.gv_core.proofs.Cells.{table_back_push}
use Rattle.gv_core.proofs.writing.put_table_back.Goals as goal

pub loop-end-preserved : goal.loop-end-preserved
loop-end-preserved c =
    let out = c.loop-end.out.items in
    let w = c.args.width in
    let rest = c.in-Some.rest.now in
    ap (λ x. x ++ table_back w rest) c.in_ok-put_number.ensures ∙ append_assoc out (le w c.in-Some.end.now) (table_back w rest)
    ∙ ap (λ x. out ++ x) (sym (table_back_push w rest c.in-Some.end.now)) ∙ ap (λ x. out ++ table_back w x) (sym c.in-Some.ensures.cases.0) ∙ c.loop-end.invariant
