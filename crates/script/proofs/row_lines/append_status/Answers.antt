use Rattle.std.proofs.Common.{◌++◌, length, sym, ◌∙◌, ap, append-nil}
use Rattle.script.specs.Lines.{count_text}
use Rattle.script.proofs.LineLemmas.{status_rows-nil, status_step}
use Rattle.script.proofs.row_lines.append_status.Goals as goal

pub loop-index-init : goal.loop-index-init
loop-index-init c =
    let count = count_text (length c.args.rows.now) in
    c.in_ok-append_count.ensures ∙ ap (λ t. c.args.text.now ++ t) (sym (ap (λ t. count ++ t) (status_rows-nil 0) ∙ append-nil count))

pub loop-index-preserved : goal.loop-index-preserved
loop-index-preserved c =
    status_step c.args.text.now (count_text (length c.args.rows.now)) c.loop-index.text _ c.loop-index.index c.args.rows.now c.index-rows-index.result c.loop-index-test.true c.index-rows-index.is c.loop-index.invariant
    c.in_ok-append_status_row.ensures
