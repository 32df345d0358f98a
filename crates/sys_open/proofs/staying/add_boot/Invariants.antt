use Rattle.durable_deployments.specs.Bounds.{IsOfBoot}
use Rattle.sys_open.specs.LeftOver.{Gathers}
use Rattle.sys_open.proofs.Stays.{BootFirst}
use Rattle.sys_open.proofs.staying.add_boot.Given as goal

-- the boot loader's link, and those that were seen to
abbrev pub invariant-loop-fixed : goal.invariant-loop-fixed
invariant-loop-fixed l = Gathers IsOfBoot (BootFirst l.fixed-items l.fixed-index) l.fn.found.items l.found.items
