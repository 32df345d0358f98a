use Rattle.std.proofs.Common.{map}
use Rattle.std.specs.String.{string_bytes}
use Rattle.top_call.proofs.Asking.{one_line, refusal_exact, refusal_is, refused_from}
use Rattle.top_call.proofs.asked.asked_lanes.Goals as goal

pub returns-in-Err-clause-fault : goal.returns-in-Err-clause-fault
returns-in-Err-clause-fault g c = refusal_is _ (map (λ word. string_bytes word) c.args.words.now) _ _ c.refusal_of.result (c.refusal_of.ensures (map (λ word. string_bytes word) c.args.words.now) c.in-Err.ensures.line)

pub returns-in-Err-clause-exact : goal.returns-in-Err-clause-exact
returns-in-Err-clause-exact g c = λ all lanes told script runs. refusal_exact (map (λ word. string_bytes word) c.args.words.now) c.refusal_of.result (c.refusal_of.ensures (map (λ word. string_bytes word) c.args.words.now) c.in-Err.ensures.line) runs

pub returns-in-Ok-clause-fault : goal.returns-in-Ok-clause-fault
returns-in-Ok-clause-fault g c = refused_from _ (map (λ word. string_bytes word) c.args.words.now) (map (λ word. string_bytes word) c.in-Ok.line.fields.items) _ _ c.asked_of.result (_, _, c.in-Ok.ensures.line) c.asked_of.ensures.fault

pub returns-in-Ok-clause-exact : goal.returns-in-Ok-clause-exact
returns-in-Ok-clause-exact g c = λ all lanes told script runs. c.asked_of.ensures.exact all lanes told script (one_line (map (λ word. string_bytes word) c.args.words.now) (map (λ word. string_bytes word) c.in-Ok.line.fields.items) _ (_, _, c.in-Ok.ensures.line) runs)
