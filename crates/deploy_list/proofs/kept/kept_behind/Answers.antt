use Rattle.deploy_list.proofs.Places.{told_more}
use Rattle.deploy_list.proofs.kept.kept_behind.Goals as goal

pub loop-place-preserved : goal.loop-place-preserved
loop-place-preserved c =
    told_more c.args.list.now c.args.os.now c.args.used.now c.loop-place.place c.index-list-place.result c.loop-place-test.true
    c.loop-place.places.items c.push_if.new.places.items c.loop-place.has_source c.is_either-has_source.result c.is_of-is_of.result c.is_used.result c.stays-stays.result
    c.is_of-is_of.ensures c.is_used.ensures c.stays-stays.ensures c.is_either-has_source.ensures c.in_ok-push_if.ensures c.loop-place.invariant
