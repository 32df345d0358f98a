use Rattle.std.proofs.Common.{◌∙◌, Some, ap, subst, sym}
use Rattle.fs_trait.specs.Effect.{IsNode}
use Rattle.tree_walk.proofs.Folders.{folder_damaged, node_folder}
use Rattle.tree_walk.proofs.leaf.look_at_leaf.Goals as goal

pub returns-in-Some-Folder-clause-told : goal.returns-in-Some-Folder-clause-told
returns-in-Some-Folder-clause-told g c = λ v is.
    let it = c.in-Some-Folder in
    let node = subst (IsNode v.now (v.now.at c.in_ok-path.path)) (it.is ∙ ap Some it.field-0-is) (c.in_ok-stat.ensures.answer v is).1 in
    folder_damaged v.now c.args._limits.now.content c.args.file.now it.field-0-0 (ap (λ p. v.now.at p) (sym c.in_ok-path.ensures) ∙ node_folder v.now (v.now.at c.in_ok-path.path) it.field-0-0 node)
