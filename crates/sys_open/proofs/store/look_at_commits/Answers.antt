use Rattle.sys_open.proofs.Stores.{commits_looked, commits_reason}
use Rattle.sys_open.proofs.store.look_at_commits.Goals as goal

pub returns-in-Err-clause-told : goal.returns-in-Err-clause-told
returns-in-Err-clause-told g c = λ v told. commits_looked (Unit {0}) c.args.limits.now v.now c.args.refs.now c.in-Err.fault c.of_commits.result (c.in-Err.ensures.told v told) c.of_commits.ensures

pub returns-in-Err-clause-reason : goal.returns-in-Err-clause-reason
returns-in-Err-clause-reason g c = commits_reason (Unit {0}) (Unit {0}) _ _ c.in-Err.fault c.of_commits.result c.in-Err.ensures.cause c.of_commits.ensures
