use Rattle.std.proofs.Common.{arith, ap}
use Rattle.checkout_command.proofs.Reading.{left_small}
use Rattle.checkout_command.proofs.read.Read.left.Goals as goal

pub overflow_add-result : goal.overflow_add-result
overflow_add-result c = omega (arith, left_small c.self.inside.task, c.left.ensures, ap (λ l. l.paths) c.self.invariant, c.paths.ensures, c.paths.type_inv)

pub overflow_add-result-2 : goal.overflow_add-result-2
overflow_add-result-2 c = omega (arith, left_small c.self.inside.task, c.left.ensures, ap (λ l. l.paths) c.self.invariant, c.paths.ensures, c.paths.type_inv)
