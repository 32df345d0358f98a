use Rattle.std.proofs.Common.{sym, subst}
use Rattle.memory_record.specs.Trail.{Shows}
use Rattle.memory_record.proofs.Records.{view_of-item}
use Rattle.memory_record.proofs.trail.Trail.of.Goals as goal

pub loop-change-preserved : goal.loop-change-preserved
loop-change-preserved c = subst (Shows c.follow.new.self) (sym (view_of-item c.loop-change.change-index c.args.changes.now c.change-item.result c.change-item.result c.loop-change-test.true c.change-item.is)) (c.in_ok-follow.ensures _ c.loop-change.invariant)
