use Rattle.std.proofs.Common.{refl, sym, ap, subst, ◌∙◌, arith}
use Rattle.std.proofs.lemmas.Result.{err_from_is_err_and}
use Rattle.ost_forms.specs.declared.tree_item.TreeItem.{TreeItem}
use Rattle.ost_forms.specs.DirMeta.{dirmeta_form}
use Rattle.tree_build.specs.Makeable.{IsSmall}
use Rattle.tree_build.specs.Objects.{meta_object, meta_bytes}
use Rattle.ost_types.specs.declared.object.ObjName.{ObjName}
use Rattle.tree_build.proofs.Steps.{progress_same, half_of, half_item, half_small, attributes_number, attributes_advances}
use Rattle.tree_build.proofs.folder.give_attributes.Goals as goal

pub meta_object-requires-clause-small : goal.meta_object-requires-clause-small
meta_object-requires-clause-small c =
    let h = half_of c.args.items.now c.args.progress.now c.in-Some.tree c.in-Some.is c.requires.progress in
    let item = half_item c.args.items.now c.args.progress.now c.in-Some.tree h c.index-items-at.result in
    subst (λ (i : TreeItem). IsSmall (dirmeta_form i.meta)) (sym item) (half_small c.args.items.now c.args.limits.now.content c.args.progress.now c.in-Some.tree h c.requires.items.makeable.small)

pub returns-in_err-push : goal.returns-in_err-push
returns-in_err-push c =
    let p = err_from_is_err_and c.from_residual-in_err-push.result c.from_residual-in_err-push.ensures.1 in
    rw p.1 (progress_same c.args.items.now c.args.progress.now c.push.new.self c.in_err-push.ensures.items c.requires.progress, refl)

pub overflow_add-progress : goal.overflow_add-progress
overflow_add-progress c =
    let h = half_of c.args.items.now c.args.progress.now c.in-Some.tree c.in-Some.is c.requires.progress in
    let n = attributes_number c.args.items.now c.args.progress.now c.in-Some.tree h in
    omega (arith, n.0, c.requires.items.few)

pub returns : goal.returns
returns c =
    let h = half_of c.args.items.now c.args.progress.now c.in-Some.tree c.in-Some.is c.requires.progress in
    let item = half_item c.args.items.now c.args.progress.now c.in-Some.tree h c.index-items-at.result in
    attributes_advances c.args.items.now c.args.limits.now.content c.args.progress.now c.push.new.self c.in_ok-object.object c.in-Some.tree c.name.result.now.csum c.requires.progress h
    c.in_ok-push.ensures.items (ap (λ (n : ObjName). n.csum) c.name.ensures) (c.in_ok-object.ensures.object ∙ ap (λ (i : TreeItem). meta_object (meta_bytes i.meta)) item) c.in_ok-object.ensures.limit
