use Rattle.std.proofs.Common.{[], ◌∙◌, ap}
use Rattle.ost_types.specs.Path.{under}
use Rattle.deploy_etc.proofs.Bounds.{etc_name, etc_path, usr_name, usr_path}
use Rattle.deploy_etc.proofs.defaults.defaults_path.Goals as goal

pub known_name-requires : goal.known_name-requires
known_name-requires c = usr_name

pub known_name-requires-2 : goal.known_name-requires-2
known_name-requires-2 c = etc_name

pub child-requires : goal.child-requires
child-requires c = usr_path _ _ c.root.ensures c.in_ok-usr.ensures

pub child-requires-2 : goal.child-requires-2
child-requires-2 c = etc_path _ _ (c.in_ok-usr_path.ensures ∙ ap (λ f. under f c.in_ok-usr.usr) c.root.ensures ∙ ap (under []) c.in_ok-usr.ensures) c.in_ok-etc.ensures
