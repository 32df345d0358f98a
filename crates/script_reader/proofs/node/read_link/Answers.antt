use Rattle.std.proofs.Common.{arith}
use Rattle.std.proofs.lemmas.Result.{IfOk-weaker}
use Rattle.script_reader.specs.Nodes.{IsLinkAt}
use Rattle.script.proofs.Slices.{five_of, five_gives}
use Rattle.script_reader.proofs.node.read_link.Goals as goal

pub returns-in-len5 : goal.returns-in-len5
returns-in-len5 c = IfOk-weaker _ _ _ (λ o. five_gives IsLinkAt _ _ _ _ _ _ o (five_of (λ f. f.now) c.args.fields.now _ _ _ _ _ (omega (arith, c.in-len5.len_at_least, c.in-len5.len_below)))) c.link_of.ensures
