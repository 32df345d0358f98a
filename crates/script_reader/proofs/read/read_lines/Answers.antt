use Rattle.script_reader.specs.Drafts.{state_of}
use Rattle.script_reader.proofs.Scripts.{so_far_more, fault_here}
use Rattle.script_reader.proofs.read.read_lines.Goals as goal

pub returns-in-Err : goal.returns-in-Err
returns-in-Err c =
    fault_here c.args.bytes.now c.loop-line.rest.now c.in-Some.line.now c.in-Some.behind.now (state_of c.loop-line.draft) c.loop-line.number c.loop-line.invariant c.in-Some.ensures.lines c.requires c.in-Err.fault c.in-Err.ensures

pub loop-line-preserved : goal.loop-line-preserved
loop-line-preserved c =
    so_far_more c.args.bytes.now c.loop-line.rest.now c.in-Some.line.now c.in-Some.behind.now (state_of c.loop-line.draft) c.loop-line.number c.loop-line.invariant c.in-Some.ensures.lines _ c.in-Some.ensures.shorter c.in-Ok.ensures
