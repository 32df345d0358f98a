use Rattle.std.proofs.Common.{sym, subst}
use Rattle.ost_types.specs.Path.{IsPath, under}
use Rattle.host_edit.proofs.Places.{path_goes_on}
use Rattle.host_edit.proofs.paths.path_of.Goals as goal

pub child-requires : goal.child-requires
child-requires c =
    subst (λ p. IsPath (under p c.name-item.result)) (sym c.loop-name.invariant) (path_goes_on c.args.names.now c.loop-name.name-index c.name-item.result c.requires c.loop-name-test.true c.name-item.is)
