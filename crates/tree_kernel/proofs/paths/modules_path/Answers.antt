use Rattle.std.proofs.Common.{[], ◌∷◌, codes, ◌∙◌, ap}
use Rattle.ost_types.specs.Path.{under}
use Rattle.tree_kernel.proofs.PathLemmas.{lib_name, lib_path, modules_name, modules_path_is, usr_name, usr_path}
use Rattle.tree_kernel.proofs.paths.modules_path.Goals as goal

pub known_name-requires : goal.known_name-requires
known_name-requires c = usr_name

pub known_name-requires-2 : goal.known_name-requires-2
known_name-requires-2 c = lib_name

pub known_name-requires-3 : goal.known_name-requires-3
known_name-requires-3 c = modules_name

pub child-requires : goal.child-requires
child-requires c = usr_path _ _ c.root.ensures c.in_ok-usr.ensures

pub child-requires-2 : goal.child-requires-2
child-requires-2 c = lib_path _ _ (c.in_ok-usr_path.ensures ∙ ap (λ f. under f c.in_ok-usr.usr) c.root.ensures ∙ ap (under []) c.in_ok-usr.ensures) c.in_ok-lib.ensures

pub child-requires-3 : goal.child-requires-3
child-requires-3 c =
    let usr = c.in_ok-usr_path.ensures ∙ ap (λ f. under f c.in_ok-usr.usr) c.root.ensures ∙ ap (under []) c.in_ok-usr.ensures in
    modules_path_is _ _ (c.in_ok-lib_path.ensures ∙ ap (λ f. under f c.in_ok-lib.lib) usr ∙ ap (under (codes "usr" ∷ [])) c.in_ok-lib.ensures) c.in_ok-modules.ensures
