use Rattle.script_reader.proofs.OneScript.{script_one}
use Rattle.script_reader.proofs.Sections.{script_back}
use Rattle.script_reader.proofs.laws.readings.Goals as goal

pub returns-clause-one : goal.returns-clause-one
returns-clause-one c = script_one

pub returns-clause-back : goal.returns-clause-back
returns-clause-back c = script_back
