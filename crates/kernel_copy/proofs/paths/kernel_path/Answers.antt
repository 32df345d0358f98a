use Rattle.std.proofs.Common.{sym, ◌∙◌, ap, subst}
use Rattle.ost_types.specs.Path.{IsPath, under}
use Rattle.repo_layout.specs.declared.folder.Folder.TheVariants.{Kernels}
use Rattle.repo_layout.specs.Paths.{folder_path}
use Rattle.kernel_copy.proofs.CopyNames.{folder-path, if_ok_as, kernel_under}
use Rattle.kernel_copy.proofs.paths.kernel_path.Goals as goal

pub child-requires : goal.child-requires
child-requires c = subst (λ f. IsPath (under f c.in_ok-name.name)) (sym c.in_ok-folder_path.ensures) (folder-path c.in_ok-name.name c.in_ok-name.ensures.name)

pub returns-clause-value : goal.returns-clause-value
returns-clause-value c =
    let path = ap (λ f. under f c.in_ok-name.name) c.in_ok-folder_path.ensures ∙ ap (under (folder_path Kernels)) c.in_ok-name.ensures.value ∙ sym (kernel_under c.args.os.now c.args.bootcsum.now) in
    if_ok_as c.child-2.result _ _ path c.child-2.ensures
