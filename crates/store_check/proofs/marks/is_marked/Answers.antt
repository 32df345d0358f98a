use Rattle.std.proofs.Common.{◌∙◌, ap, subst, Some}
use Rattle.fs_trait.specs.Effect.{IsNode}
use Rattle.repo_layout.specs.Refs.{is_leaf}
use Rattle.store_check.proofs.Marking.{leaf_of_node}
use Rattle.store_check.proofs.marks.is_marked.Goals as goal

pub returns-in-Some-File-clause-told : goal.returns-in-Some-File-clause-told
returns-in-Some-File-clause-told g c = λ v told.
    let node = subst (IsNode v.now (v.now.at c.in_ok-path.path)) (c.in-Some-File.is ∙ ap Some c.in-Some-File.field-0-is) (c.in_ok-stat.ensures.answer v told).1 in
    leaf_of_node v.now _ _ node ∙ ap (λ p. is_leaf (v.now.at p)) c.in_ok-path.ensures

pub returns-in-Some-Link-clause-told : goal.returns-in-Some-Link-clause-told
returns-in-Some-Link-clause-told g c = λ v told.
    let node = subst (IsNode v.now (v.now.at c.in_ok-path.path)) (c.in-Some-Link.is ∙ ap Some c.in-Some-Link.field-0-is) (c.in_ok-stat.ensures.answer v told).1 in
    leaf_of_node v.now _ _ node ∙ ap (λ p. is_leaf (v.now.at p)) c.in_ok-path.ensures

pub returns-in-Some-Folder-clause-told : goal.returns-in-Some-Folder-clause-told
returns-in-Some-Folder-clause-told g c = λ v told.
    let node = subst (IsNode v.now (v.now.at c.in_ok-path.path)) (c.in-Some-Folder.is ∙ ap Some c.in-Some-Folder.field-0-is) (c.in_ok-stat.ensures.answer v told).1 in
    leaf_of_node v.now _ _ node ∙ ap (λ p. is_leaf (v.now.at p)) c.in_ok-path.ensures
