use Rattle.std.proofs.Common.{arith, length-take}
use Rattle.top_call.proofs.Reading.{shorter}
use Rattle.top_call.proofs.input.read_piece.Goals as goal

pub returns-clause-read : goal.returns-clause-read
returns-clause-read g c = λ all told. shorter _ _ _ _ c.read_into.result (simp length-take (omega arith)) (c.read_into.ensures.read all told)
