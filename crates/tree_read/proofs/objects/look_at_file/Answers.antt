use Rattle.std.proofs.Common.{ap, subst}
use Rattle.ost_types.specs.declared.object.Kind.TheVariants as kinds
use Rattle.ost_objects.specs.Object.{HasForm}
use Rattle.repo_model.specs.Trees.{name_of}
use Rattle.tree_read.proofs.Told.{found}
use Rattle.tree_read.proofs.objects.look_at_file.Goals as goal

pub returns-in-Here-clause-told : goal.returns-in-Here-clause-told
returns-in-Here-clause-told g c = λ v is.
    let it = found v.now c.args.limits.now.content (name_of kinds.File c.args.file.now) c.in_ok-object.field-0 c.in-Here.object c.in-Here.is (c.in_ok-object.ensures.told v is) in
    let formed = subst (λ l. HasForm kinds.File l c.in-Here.object.bytes) it.limit_is (subst (λ k. HasForm k c.in-Here.object.limit c.in-Here.object.bytes) (ap (λ n. n.kind) it.name_is) c.file_of.ensures.formed) in
    rw c.file_of.ensures.read (record { bytes = _; stored = it.stored; formed = formed })
