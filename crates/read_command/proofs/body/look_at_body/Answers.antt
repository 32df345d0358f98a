use Rattle.ost_types.specs.declared.object.Kind.TheVariants as kinds
use Rattle.repo_model.specs.Trees.{name_of}
use Rattle.tree_read.proofs.Told.{found, told}
use Rattle.read_command.proofs.body.look_at_body.Goals as goal

pub returns-in-Here-clause-told : goal.returns-in-Here-clause-told
returns-in-Here-clause-told g c = λ v is.
    let it = found v.now c.args.limits.now.content (name_of kinds.File c.args.file.now) c.in_ok-object.field-0 c.in-Here.object c.in-Here.is (c.in_ok-object.ensures.told v is) in
    told v.now c.args.limits.now.content c.args.limits.now.content (name_of kinds.File c.args.file.now) _ _ c.in-Here.object.bytes it.stored (λ e m. m) (λ x p. record { bytes = _; stored = it.stored; meta = p.0; reads = p.1 }) c.body_of.result c.body_of.ensures
