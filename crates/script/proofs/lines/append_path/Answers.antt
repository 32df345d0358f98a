use Rattle.std.proofs.Common.{◌≡◌, ◌++◌, ◌∙◌, subst, OnOk}
use Rattle.script.specs.Field.{escaped}
use Rattle.script.proofs.lines.append_path.Goals as goal

pub returns : goal.returns
returns c = subst (λ t. OnOk c.append_escaped.result (c.append_escaped.new.text ≡ c.args.text.now ++ (c.args.before.now ++ escaped t))) (c.as_slice.ensures ∙ c.in_ok-path.ensures) c.append_escaped.ensures
