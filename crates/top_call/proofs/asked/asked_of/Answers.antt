use Rattle.std.proofs.Common.{◌∙◌, ap, map, subst}
use Rattle.std.specs.String.{string_bytes}
use Rattle.top_call.specs.Words.{AreRefused, AskFor, commands_of}
use Rattle.top_call.proofs.asked.asked_of.Goals as goal

pub returns-in-Ok-clause-lanes : goal.returns-in-Ok-clause-lanes
returns-in-Ok-clause-lanes g c = subst (λ fields. AskFor (g.S.Source.left c.args.input.now) (map (λ word. string_bytes word) fields) (commands_of c.in-Ok.lanes.items)) c.deref.ensures.value c.in-Ok.ensures.lanes

pub returns-in-Err-clause-fault : goal.returns-in-Err-clause-fault
returns-in-Err-clause-fault g c =
    subst (λ fields. AreRefused (g.S.Source.left c.args.input.now) (map (λ word. string_bytes word) fields) (g.S.Source.faults c.args.input.now) (g.S.Source.faults c.lanes_of_fields.new.input) c.in-Err.fault) c.deref.ensures.value c.in-Err.ensures.fault

pub returns-in-Err-clause-exact : goal.returns-in-Err-clause-exact
returns-in-Err-clause-exact g c = λ all lanes told script is. c.in-Err.ensures.exact all lanes told script (ap (map (λ word. string_bytes word)) c.deref.ensures.value ∙ is)
