use Rattle.std.proofs.Common.{sym, ◌∙◌, subst}
use Rattle.deployment_check.specs.Judging.{Walks}
use Rattle.deployment_check.proofs.Trees.{tree_shape}
use Rattle.deployment_check.proofs.check.judge.Goals as goal

pub judge_files-requires-clause-tree : goal.judge_files-requires-clause-tree
judge_files-requires-clause-tree g c = λ v told.
    let commit = c.args.id.now.commit in
    let before = sym (c.in_ok-find_kernel.ensures.quiet.view ∙ c.in_ok-tree.ensures.quiet.view) ∙ told in
    let has = subst (Walks c.args.limits v.now commit) c.in-Some.is (c.in_ok-tree.ensures.told v before) in
    tree_shape c.args.limits v.now commit c.in-Some.tree has
