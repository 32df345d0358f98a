use Rattle.sys_open.proofs.Booting.{none_interrupted}
use Rattle.sys_open.proofs.deployments.judge_row.Goals as goal

pub returns-clause-told : goal.returns-clause-told
returns-clause-told g c = λ v told. none_interrupted _ c.in-Err.error c.refused.result (c.in-Err.ensures.told v told) c.refused.ensures
