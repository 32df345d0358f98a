use Rattle.std.proofs.Common.{subst}
use Rattle.script_reader.specs.Drafts.{lanes_of}
use Rattle.script_reader.specs.Script.{in_lane, Refuses}
use Rattle.script_reader.proofs.step.follow_lane.Goals as goal

pub returns-in-Err : goal.returns-in-Err
returns-in-Err c = subst (λ t. Refuses (in_lane t (lanes_of c.args.sections) c.args.commands.items) c.args.line.now c.args.number c.in-Err.fault) c.deref.ensures.value (c.in-Err.ensures (lanes_of c.args.sections))
