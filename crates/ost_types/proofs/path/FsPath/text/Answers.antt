use Rattle.std.proofs.Common.{rules, arith, append_assoc}
use Rattle.ost_types.specs.Path.{joined}
use Rattle.ost_types.proofs.Joined.{joined-take_more}
use Rattle.ost_types.proofs.path.FsPath.text.Goals as goal

pub loop-name-init : goal.loop-name-init
unfolding joined
loop-name-init c = search rules

pub loop-name-preserved : goal.loop-name-preserved
loop-name-preserved c =
    let more = joined-take_more c.as_slice-name-items.result.now c.loop-name.name-index c.name-item.result c.loop-name-test.true c.name-item.is in
    let first = c.in_ok-push-2.ensures.ok in
    let second = c.in_ok-append.ensures.ok in
    grind (arith, more, first, second, append_assoc)
