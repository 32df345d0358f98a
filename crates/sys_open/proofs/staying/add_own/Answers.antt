use Rattle.sys_open.proofs.Stays.{own_gathered}
use Rattle.sys_open.proofs.staying.add_own.Goals as goal

pub returns : goal.returns
returns c = own_gathered c.args.id.now _ _ _ c.in_ok-etc.etc c.in_ok-origin.origin c.in_ok-etc.ensures c.in_ok-origin.ensures c.in_ok-push.ensures.items c.in_ok-push-2.ensures.items
