use Rattle.std.proofs.Common.{sym, ◌∙◌, ap, subst, refl}
use Rattle.std.proofs.lemmas.Result.{err_from_is_err_and}
use Rattle.ost_types.specs.declared.node.NodeName.{NodeName}
use Rattle.ost_types.specs.Path.{Path}
use Rattle.checkout.proofs.CheckoutAnswering.{looked_none}
use Rattle.tree_copy.specs.TreeWork.{TreeCopying, reached, reached_turn}
use Rattle.tree_copy.specs.TreeSteps.{Needs}
use Rattle.tree_copy.proofs.TreeAnswering.{first_folder, number_first, reached_as, root_fails, root_made, told_as}
use Rattle.tree_copy.proofs.task.TreeCopy.begin.Goals as goal

pub unreachable-requires : goal.unreachable-requires
unreachable-requires g c =
    let number = number_first _ c.self.invariant _ c.as_slice.ensures.value c.index-as_slice-0.result c.index-as_slice-0.is in
    first_folder _ c.self.invariant c.index-as_slice-0.result number _ (ap (λ (y : Path × NodeName). y.1) c.index-as_slice-0.is ∙ c.in-Leaf.is)

pub returns-in_err-mkdir-in-Folder-clause-told : goal.returns-in_err-mkdir-in-Folder-clause-told
returns-in_err-mkdir-in-Folder-clause-told g c = λ v told.
    let needs = subst (λ t. Needs t v) (sym c.self.view_is) (c.requires.needs v told) in
    let is = ap (λ (t : TreeCopying). t.phase) c.self.view_is ∙ c.requires.phase in
    let number = number_first _ c.self.invariant _ c.as_slice.ensures.value c.index-as_slice-0.result c.index-as_slice-0.is in
    let vacant = looked_none v.now _ _ (c.in_ok-stat.ensures.answer v told).1 (sym c.if-is_some.ensures) in
    let still = c.in_ok-stat.ensures.quiet.view ∙ told in
    let error = err_from_is_err_and c.from_residual-in_err-mkdir-in-Folder.result c.from_residual-in_err-mkdir-in-Folder.ensures.1 in
    rw (error.1, error.2) (told_as _ _ _ _ c.self.view_is c.self.view_is v _ _ (root_fails _ v (g.met.F.Fs.tree c.args.fs.now v told) c.self.invariant is needs vacant c.index-as_slice-0.result number _ (ap (λ (y : Path × NodeName). y.1) c.index-as_slice-0.is ∙ c.in-Folder.is) _ _ (c.in_err-mkdir-in-Folder.ensures.effect v still)))

pub returns-clause-told : goal.returns-clause-told
returns-clause-told g c = λ v told.
    let needs = subst (λ t. Needs t v) (sym c.self.view_is) (c.requires.needs v told) in
    let is = ap (λ (t : TreeCopying). t.phase) c.self.view_is ∙ c.requires.phase in
    let number = number_first _ c.self.invariant _ c.as_slice.ensures.value c.index-as_slice-0.result c.index-as_slice-0.is in
    let vacant = looked_none v.now _ _ (c.in_ok-stat.ensures.answer v told).1 (sym c.if-is_some.ensures) in
    let still = c.in_ok-stat.ensures.quiet.view ∙ told in
    reached_as 0 0 _ _ _ _ refl c.self.view_is (c.reached.ensures.next ∙ ap (reached 0) (sym c.self.view_is)) (c.reached.ensures.turn ∙ ap (reached_turn 0) (sym c.self.view_is)) v _
    (root_made _ v (g.met.F.Fs.tree c.args.fs.now v told) c.self.invariant is needs vacant c.index-as_slice-0.result number _ (ap (λ (y : Path × NodeName). y.1) c.index-as_slice-0.is ∙ c.in-Folder.is) _ (c.in_ok-mkdir-in-Folder.ensures.effect v still))
