use Rattle.std.proofs.Common.{◌∙◌, ap}
use Rattle.kernel_copy.specs.Work.{put_begun}
use Rattle.kernel_copy.proofs.Working.{made_new}
use Rattle.kernel_copy.proofs.task.KernelTask.new.Goals as goal

pub invariant_of-result : goal.invariant_of-result
invariant_of-result c =
    let sum = c.args.files.kernel in
    let first = c.in_ok-kernel.ensures ∙ ap (λ s. put_begun s c.in_ok-at.at sum) c.in_ok-copy.ensures ∙ ap (λ p. put_begun c.args.stage p sum) c.in_ok-at.ensures in
    made_new c.args.stage c.args.os c.args.files c.requires.placed _ _ _ c.in_ok-folder.ensures.value first c.in_ok-initramfs.ensures
