use Rattle.std.proofs.Common.{inr, refl}
use Rattle.top_call.proofs.Asking.{no_lone}
use Rattle.top_call.proofs.words.fault_of.Goals as goal

pub returns-in_default : goal.returns-in_default
returns-in_default c = λ words reads. inr (refl, no_lone words c.args.why reads c.in_default.not-NoMemory)
