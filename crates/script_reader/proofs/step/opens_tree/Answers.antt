use Rattle.std.proofs.Common.{arith}
use Rattle.script_reader.proofs.Scripts.{opens_yes, opens_no, two_fields}
use Rattle.script_reader.proofs.step.opens_tree.Goals as goal

pub returns-in-len2-clause-yes : goal.returns-in-len2-clause-yes
returns-in-len2-clause-yes c =
    opens_yes _ _ c.args.count c.args.line.now c.is_head.result
    (two_fields (λ f. f.now) c.args.line.now _ c.as_slice.result.now _ _ c.in_ok-fields.ensures c.as_slice.ensures.value (omega (arith, c.in-len2.len_at_least, c.in-len2.len_below)))
    c.is_head.ensures.yes

pub returns-in-len2-clause-no : goal.returns-in-len2-clause-no
returns-in-len2-clause-no c =
    opens_no _ _ c.args.count c.args.line.now c.is_head.result
    (two_fields (λ f. f.now) c.args.line.now _ c.as_slice.result.now _ _ c.in_ok-fields.ensures c.as_slice.ensures.value (omega (arith, c.in-len2.len_at_least, c.in-len2.len_below)))
    c.is_head.ensures.no
