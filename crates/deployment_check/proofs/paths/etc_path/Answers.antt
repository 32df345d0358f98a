use Rattle.std.proofs.Common.{sym, subst}
use Rattle.ost_types.specs.Path.{IsPath, under}
use Rattle.deployment_check.proofs.Rooms.{etc_name, etc_path}
use Rattle.deployment_check.proofs.paths.etc_path.Goals as goal

pub known_name-requires : goal.known_name-requires
known_name-requires c = etc_name

pub child-requires : goal.child-requires
child-requires c = subst (λ n. IsPath (under c.in_ok-home_path.field-0 n)) (sym c.in_ok-name.ensures) (etc_path c.in_ok-home_path.field-0 c.in_ok-home_path.ensures.room)
