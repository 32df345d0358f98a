use Rattle.std.proofs.Common.{refl, ap, arith}
use Rattle.std.proofs.lemmas.Result.{err_from_is_err_and}
use Rattle.ost_types.specs.declared.object.ObjName.{ObjName}
use Rattle.tree_build.proofs.Steps.{progress_same, small_file, file_number, file_advances}
use Rattle.tree_build.proofs.file.give_file.Goals as goal

pub file_object-requires-clause-small : goal.file_object-requires-clause-small
file_object-requires-clause-small c =
    small_file c.args.items.now c.args.limits.now.content c.args.progress.now.at c.index-items-at.result c.in-Some.body c.requires.file.0 c.requires.progress.inside c.index-items-at.is c.in-Some.is c.requires.items.makeable.small

pub returns-in_err-push : goal.returns-in_err-push
returns-in_err-push c =
    let p = err_from_is_err_and c.from_residual-in_err-push.result c.from_residual-in_err-push.ensures.1 in
    rw p.1 (progress_same c.args.items.now c.args.progress.now c.push.new.self c.in_err-push.ensures.items c.requires.progress, refl)

pub overflow_add-progress : goal.overflow_add-progress
overflow_add-progress c =
    let n = file_number c.args.items.now c.args.progress.now c.index-items-at.result c.in-Some.body c.requires.progress c.requires.file.1 c.requires.file.0 c.index-items-at.is c.in-Some.is in
    omega (arith, n.0, c.requires.items.few)

pub returns : goal.returns
returns c =
    file_advances c.args.items.now c.args.limits.now.content c.args.progress.now c.push.new.self c.in_ok-object-in-Some.object c.index-items-at.result c.in-Some.body c.name.result.now.csum c.requires.progress c.requires.file.1 c.requires.file.0 c.index-items-at.is c.in-Some.is
    c.in_ok-push.ensures.items (ap (λ (n : ObjName). n.csum) c.name.ensures) c.in_ok-object-in-Some.ensures.object c.in_ok-object-in-Some.ensures.limit
