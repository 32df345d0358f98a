use Rattle.std.proofs.Common.{◌∙◌, sym}
use Rattle.boot_read.proofs.Following.{other_version, this_version}
use Rattle.boot_read.proofs.links.this_version.Goals as goal

pub returns-then-is_same : goal.returns-then-is_same
returns-then-is_same c = λ text names. this_version text c.args.link c.args.loader (sym c.is_same.ensures ∙ c.if-is_same.true) names

pub returns-else-is_same : goal.returns-else-is_same
returns-else-is_same c = λ text names. other_version text c.args.link c.args.loader (sym c.is_same.ensures ∙ c.if-is_same.false) names
