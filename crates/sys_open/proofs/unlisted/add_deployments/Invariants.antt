use Rattle.deploy_clean.specs.Unlisted.{IsUnlisted}
use Rattle.sys_open.specs.LeftOver.{Gathers}
use Rattle.sys_open.proofs.Gathering.{AtFirst}
use Rattle.sys_open.proofs.unlisted.add_deployments.Given as goal

-- those of the names that were seen to
abbrev pub invariant-loop-name : goal.invariant-loop-name
invariant-loop-name g l = Gathers (IsUnlisted l.listed) (AtFirst l.listed l.os l.name-items l.name-index) l.fn.found.items l.found.items
