use Rattle.top_call.proofs.Asking.{told_fault}
use Rattle.top_call.proofs.asked.fault_of.Goals as goal

pub returns-in_default-clause-fault : goal.returns-in_default-clause-fault
returns-in_default-clause-fault c = λ bytes is. told_fault bytes c.args.why c.in_default.not-NoMemory is
