use Rattle.std.proofs.Common.{subst, sym}
use Rattle.ost_types.specs.Path.{IsPath, under}
use Rattle.ref_room.proofs.Names.{IsPath-next}
use Rattle.ref_room.proofs.folder.front.Goals as goal

pub child-requires : goal.child-requires
child-requires c =
    subst (λ p. IsPath (under p c.name-item.result)) (sym c.loop-name.invariant)
    (IsPath-next c.names.result.now c.args.count c.loop-name.name-index c.name-item.result c.names.ensures.path c.loop-name-test.true c.name-item.is)
