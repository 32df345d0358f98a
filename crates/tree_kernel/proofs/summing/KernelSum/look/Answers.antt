use Rattle.tree_kernel.proofs.StepLemmas.{look_stepped}
use Rattle.tree_kernel.proofs.summing.KernelSum.look.Goals as goal

pub returns-clause-stepped : goal.returns-clause-stepped
returns-clause-stepped g c = look_stepped c.args.self.now c.begin.new.self _ c.in_ok-kernel.kernel c.in_ok-initramfs.initramfs _ c.requires c.begin.ensures c.kernel_from.ensures.value
