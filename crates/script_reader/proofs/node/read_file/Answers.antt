use Rattle.std.proofs.Common.{arith}
use Rattle.std.proofs.lemmas.Result.{IfOk-weaker}
use Rattle.script_reader.specs.Nodes.{IsFileAt}
use Rattle.script_reader.proofs.Fields.{six_of, six_gives}
use Rattle.script_reader.proofs.node.read_file.Goals as goal

pub returns-in-len6 : goal.returns-in-len6
returns-in-len6 c = IfOk-weaker _ _ _ (λ o. six_gives IsFileAt _ _ _ _ _ _ _ o (six_of (λ f. f.now) c.args.fields.now _ _ _ _ _ _ (omega (arith, c.in-len6.len_at_least, c.in-len6.len_below)))) c.file_of.ensures
