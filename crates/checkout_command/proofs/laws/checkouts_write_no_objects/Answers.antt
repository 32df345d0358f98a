use Rattle.checkout_command.proofs.Writing.{writes_inside}
use Rattle.checkout_command.proofs.laws.checkouts_write_no_objects.Goals as goal

pub returns : goal.returns
returns c = writes_inside
