use Rattle.std.proofs.Common.{◌∙◌}
use Rattle.native_nodes.proofs.attributes.Attributes.permissions.Goals as goal

pub returns : goal.returns
returns c = λ kind bits small is. c.from_mode.ensures ∙ c.bits.ensures kind bits small is
