use Rattle.std.proofs.Common.{◌∙◌}
use Rattle.boot_read.proofs.Looking.{folder_at}
use Rattle.boot_read.proofs.owned.has_folder.Goals as goal

pub returns-clause-told : goal.returns-clause-told
returns-clause-told g c = λ v told. c.is_some_folder.ensures ∙ folder_at v.now (v.now.at c.args.at.now) c.in_ok-node.node (c.in_ok-node.ensures.answer v told).1
