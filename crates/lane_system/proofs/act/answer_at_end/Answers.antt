use Rattle.std.proofs.Common.{sym, subst}
use Rattle.rely_guarantee.specs.declared.kind.Outcome.{Outcome}
use Rattle.lane_system.specs.Steps.{IsEndedAs}
use Rattle.lane_system.proofs.act.answer_at_end.Goals as goal

pub refusal-requires : goal.refusal-requires
refusal-requires g c = c.requires.named c.in-Refused.error c.in-Refused.is

pub returns-in-Refused : goal.returns-in-Refused
returns-in-Refused g c = subst (λ (o : Outcome). IsEndedAs g.C.Command.doing.answer (g.F.Watch.refused c.args.base.now.fs) o c.args.work (g.F.Fs.faults c.args.base.now.fs) c.refusal.result) (sym c.in-Refused.is) c.refusal.ensures
