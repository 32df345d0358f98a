use Rattle.std.proofs.Common.{Ok, sym, subst}
use Rattle.keyfile.specs.Reading.{Reads}
use Rattle.keyfile.proofs.Written.{text_step, text_end, read_back}
use Rattle.keyfile.proofs.write.write_keyfile.Goals as goal

pub loop-line-preserved : goal.loop-line-preserved
loop-line-preserved c =
    text_step c.loop-line.text c.append_heading.new.text c.append_key.new.text _ c.loop-line.group.now c.as_slice.result.now c.as_slice-group.result.now c.as_slice-in-loop-line.result.now c.as_slice-in-loop-line-2.result.now
    c.loop-line.line-index c.args.lines.now c.line-item.result c.loop-line-test.true c.line-item.is
    c.as_slice.ensures.value c.as_slice-group.ensures.value c.as_slice-in-loop-line.ensures.value c.as_slice-in-loop-line-2.ensures.value
    c.in_ok-append_heading.ensures c.in_ok-append_key.ensures c.loop-line.invariant

pub returns-clause-text : goal.returns-clause-text
returns-clause-text c = text_end _ _ c.loop-line.group.now c.loop-line.line-index c.args.lines.now c.loop-line-test.false c.loop-line.invariant

pub returns-clause-back : goal.returns-clause-back
returns-clause-back c = subst (λ t. Reads t (Ok c.args.lines.now)) (sym (returns-clause-text c)) (read_back c.args.lines.now c.requires)
