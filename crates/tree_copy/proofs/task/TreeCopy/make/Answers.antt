use Rattle.std.proofs.Common.{Ok, refl, sym, ◌∙◌, ap, subst}
use Rattle.std.proofs.lemmas.Result.{err_from_is_err_and}
use Rattle.tree_copy.specs.TreeWork.{TreeCopying, reached, reached_turn}
use Rattle.tree_copy.specs.TreeSteps.{Needs}
use Rattle.tree_copy.proofs.TreeAnswering.{has_source, node_begins, node_fails, node_made, number_make, reached_as, told_as}
use Rattle.tree_copy.proofs.task.TreeCopy.make.Goals as goal

pub returns-in_err-begin_node-clause-told : goal.returns-in_err-begin_node-clause-told
returns-in_err-begin_node-clause-told g c = λ v told.
    let needs = subst (λ t. Needs t v) (sym c.self.view_is) (c.requires.needs v told) in
    let is = ap (λ (t : TreeCopying). t.phase) c.self.view_is ∙ c.requires.phase in
    let tree = g.met.F.Fs.tree c.args.fs.now v told in
    let number = number_make _ c.args.number c.self.invariant is _ c.as_slice.ensures.value c.index-as_slice-number.result c.index-as_slice-number.is in
    let there = has_source c.args.number _ v tree c.self.invariant is needs c.index-as_slice-number.result number in
    let error = err_from_is_err_and c.from_residual-in_err-begin_node.result c.from_residual-in_err-begin_node.ensures.1 in
    rw (error.1, error.2) (told_as _ _ _ _ c.self.view_is c.self.view_is v _ _ (node_fails c.args.number _ v tree c.self.invariant is needs c.index-as_slice-number.result number _ c.in_ok-at.ensures _ _ (c.in_err-begin_node.ensures.told v told there)))

pub returns-in-None-clause-told : goal.returns-in-None-clause-told
returns-in-None-clause-told g c = λ v told.
    let needs = subst (λ t. Needs t v) (sym c.self.view_is) (c.requires.needs v told) in
    let is = ap (λ (t : TreeCopying). t.phase) c.self.view_is ∙ c.requires.phase in
    let tree = g.met.F.Fs.tree c.args.fs.now v told in
    let number = number_make _ c.args.number c.self.invariant is _ c.as_slice.ensures.value c.index-as_slice-number.result c.index-as_slice-number.is in
    let there = has_source c.args.number _ v tree c.self.invariant is needs c.index-as_slice-number.result number in
    reached_as c.args.number c.args.number _ _ _ _ refl c.self.view_is (c.reached.ensures.next ∙ ap (reached c.args.number) (sym c.self.view_is)) (c.reached.ensures.turn ∙ ap (reached_turn c.args.number) (sym c.self.view_is)) v _
    (node_made c.args.number _ v tree c.self.invariant is needs c.index-as_slice-number.result number _ c.in_ok-at.ensures _ (c.in_ok-begin_node.was ∙ ap Ok c.in-None.is) _ (c.begin_node.ensures.told v told there))

pub returns-in-Some-clause-told : goal.returns-in-Some-clause-told
returns-in-Some-clause-told g c = λ v told.
    let needs = subst (λ t. Needs t v) (sym c.self.view_is) (c.requires.needs v told) in
    let is = ap (λ (t : TreeCopying). t.phase) c.self.view_is ∙ c.requires.phase in
    let tree = g.met.F.Fs.tree c.args.fs.now v told in
    let number = number_make _ c.args.number c.self.invariant is _ c.as_slice.ensures.value c.index-as_slice-number.result c.index-as_slice-number.is in
    let there = has_source c.args.number _ v tree c.self.invariant is needs c.index-as_slice-number.result number in
    told_as _ _ _ _ c.self.view_is refl v _ _
    (node_begins c.args.number _ v tree c.self.invariant is needs c.index-as_slice-number.result number _ c.in_ok-at.ensures _ c.in-Some.copying (c.in_ok-begin_node.was ∙ ap Ok c.in-Some.is) _ (c.begin_node.ensures.told v told there))
