use Rattle.std.proofs.Common.{[]}
use Rattle.sys_open.specs.LeftOver.{Gathers, IsOwnOf}
use Rattle.sys_open.proofs.Stays.{OwnFirst}
use Rattle.sys_open.proofs.staying.own_paths.Given as goal

-- those of the deployments that were seen to
abbrev pub invariant-loop-id : goal.invariant-loop-id
invariant-loop-id l = Gathers (IsOwnOf l.listed) (OwnFirst l.listed l.id-index) [] l.found.items
