use Rattle.sys_open.proofs.Stays.{all_boot, boot_more, loader_first}
use Rattle.sys_open.proofs.staying.add_boot.Goals as goal

pub loop-fixed-init : goal.loop-fixed-init
loop-fixed-init c = loader_first c.versioned-fixed-items.result.now _ _ _ c.in_ok-loader.ensures c.in_ok-push.ensures.items

pub loop-fixed-preserved : goal.loop-fixed-preserved
loop-fixed-preserved c = boot_more c.versioned-fixed-items.result.now c.loop-fixed.fixed-index _ c.versioned-fixed-items.ensures c.loop-fixed-test.true _ _ _ _ c.in_ok-at.ensures c.in_ok-push-2.ensures.items c.loop-fixed.invariant

pub returns : goal.returns
returns c = all_boot c.versioned-fixed-items.result.now c.loop-fixed.fixed-index _ _ c.versioned-fixed-items.ensures c.loop-fixed-test.false c.loop-fixed.invariant
