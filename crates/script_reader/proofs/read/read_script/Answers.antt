use Rattle.script_reader.proofs.OneScript.{exact_from}
use Rattle.script_reader.proofs.read.read_script.Goals as goal

pub returns-clause-exact : goal.returns-clause-exact
returns-clause-exact c = λ lanes script. exact_from c.args.bytes.now lanes _ _ c.read_lines.ensures script
