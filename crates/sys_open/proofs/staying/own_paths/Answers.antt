use Rattle.std.proofs.Common.{[], sym, subst}
use Rattle.sys_open.specs.LeftOver.{Gathers, IsOwnOf}
use Rattle.sys_open.proofs.Gathering.{none_gathered}
use Rattle.sys_open.proofs.Stays.{OwnFirst, all_own, none_own, own_more}
use Rattle.sys_open.proofs.staying.own_paths.Goals as goal

pub loop-id-init : goal.loop-id-init
loop-id-init c =
    let listed = c.args.listed.now in
    subst (Gathers (IsOwnOf listed) (OwnFirst listed 0) []) (sym c.new-found.ensures.items) (none_gathered (IsOwnOf listed) (OwnFirst listed 0) [] (none_own listed))

pub loop-id-preserved : goal.loop-id-preserved
loop-id-preserved c = own_more c.args.listed.now c.loop-id.id-index c.id-item.result c.loop-id-test.true c.id-item.is [] _ _ c.loop-id.invariant c.in_ok-add_own.ensures

pub returns : goal.returns
returns c = all_own c.args.listed.now c.loop-id.id-index _ c.loop-id-test.false c.loop-id.invariant
