use Rattle.lane_system.proofs.Coming.{refused_failed}
use Rattle.lane_system.proofs.act.refusal.Goals as goal

pub returns-in_default : goal.returns-in_default
returns-in_default g c = refused_failed _ c.args.error c.requires (λ is. c.in_default.not-NoMemory is)
