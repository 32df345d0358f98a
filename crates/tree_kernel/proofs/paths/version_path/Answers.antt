use Rattle.std.proofs.Common.{◌∙◌, ap, subst}
use Rattle.ost_types.specs.Path.{under}
use Rattle.ost_types.specs.Text.{IsName}
use Rattle.tree_kernel.proofs.PathLemmas.{file_path_is, kver_path}
use Rattle.tree_kernel.proofs.paths.version_path.Goals as goal

pub child-requires : goal.child-requires
child-requires c = kver_path _ c.args.kver.now c.in_ok-modules.ensures (subst IsName c.as_slice-kver.ensures.value c.as_slice-kver.ensures.name)

pub child-requires-2 : goal.child-requires-2
child-requires-2 c =
    file_path_is _ c.args.kver.now _ _ (c.in_ok-folder.ensures ∙ ap (λ f. under f c.args.kver.now) c.in_ok-modules.ensures) c.in_ok-name.ensures (subst IsName c.as_slice-kver.ensures.value c.as_slice-kver.ensures.name) c.requires
