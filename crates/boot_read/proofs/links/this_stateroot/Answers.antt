use Rattle.std.proofs.Common.{◌∙◌, sym}
use Rattle.ost_types.proofs.Paths.{same_name-Decides}
use Rattle.boot_read.proofs.Following.{other_stateroot}
use Rattle.boot_read.proofs.links.this_stateroot.Goals as goal

pub returns-then-is_stateroot : goal.returns-then-is_stateroot
returns-then-is_stateroot c = λ target leads. (leads, (same_name-Decides c.args.led.os c.args.os.now).0 (sym c.is_stateroot.ensures ∙ c.if-is_stateroot.true))

pub returns-else-is_stateroot : goal.returns-else-is_stateroot
returns-else-is_stateroot c = λ target leads. other_stateroot target c.args.led c.args.os.now (sym c.is_stateroot.ensures ∙ c.if-is_stateroot.false) leads
