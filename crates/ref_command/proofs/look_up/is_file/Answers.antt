use Rattle.std.proofs.Common.{◌∙◌}
use Rattle.ref_command.proofs.Founds.{regular}
use Rattle.ref_command.proofs.look_up.is_file.Goals as goal

pub returns-clause-told : goal.returns-clause-told
returns-clause-told g c = λ v told. c.is_regular.ensures ∙ regular v.now c.args.at.now c.in_ok-node.node (c.in_ok-node.ensures.answer v told).1
