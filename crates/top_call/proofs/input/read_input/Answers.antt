use Rattle.top_call.proofs.Reading.{front_any}
use Rattle.top_call.proofs.input.read_input.Goals as goal

pub returns-then-before-faults-clause-read : goal.returns-then-before-faults-clause-read
returns-then-before-faults-clause-read g c = λ all told. front_any all _ c.read_pieces-read.result (c.read_pieces-read.ensures.read all told)
