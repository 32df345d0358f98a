use Rattle.std.proofs.Common.{◌∙◌}
use Rattle.tree_scan.proofs.look.look.Goals as goal

pub returns-in-Some-Folder-clause-told : goal.returns-in-Some-Folder-clause-told
returns-in-Some-Folder-clause-told g c = λ v told. c.list_folder.ensures.told v c.args.limits.now.content (c.in_ok-stat.ensures.quiet.view ∙ told)
