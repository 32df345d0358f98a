use Rattle.std.proofs.lemmas.Result.{IfOk-weaker}
use Rattle.script_reader.proofs.Values.{gives_some, gives_none}
use Rattle.script_reader.proofs.Scripts.{next_from}
use Rattle.script_reader.proofs.nodes.next_node.Goals as goal

pub returns-in-Some : goal.returns-in-Some
returns-in-Some c = IfOk-weaker _ _ _ (λ o. next_from c.args.items c.args.line.now c.in-Some.item o (gives_some _ _ _ c.in_ok-item.ensures c.in-Some.is)) c.add_node.ensures

pub returns-in-None : goal.returns-in-None
returns-in-None c = λ x is. gives_none _ _ c.in_ok-item.ensures c.in-None.is x is.0
