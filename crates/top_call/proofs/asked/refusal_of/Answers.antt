use Rattle.std.proofs.Common.{inl, inr, refl}
use Rattle.top_call.proofs.Asking.{usage_from}
use Rattle.top_call.proofs.asked.refusal_of.Goals as goal

pub returns-in-Usage : goal.returns-in-Usage
returns-in-Usage c = λ words why. inr (refl, usage_from words c.args.why c.in-Usage.is why)

pub returns-in-NoMemory : goal.returns-in-NoMemory
returns-in-NoMemory c = λ words why. inl refl
