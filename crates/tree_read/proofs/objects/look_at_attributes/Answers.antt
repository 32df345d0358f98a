use Rattle.ost_types.specs.declared.object.Kind.TheVariants as kinds
use Rattle.repo_model.specs.Trees.{name_of}
use Rattle.tree_read.proofs.Told.{found, told}
use Rattle.tree_read.proofs.Telling.{of_reads}
use Rattle.tree_read.proofs.objects.look_at_attributes.Goals as goal

pub returns-in-Here-clause-told : goal.returns-in-Here-clause-told
returns-in-Here-clause-told g c = λ v is.
    let it = found v.now c.args.limits.now.content (name_of kinds.DirMeta c.args.meta.now) c.in_ok-object.field-0 c.in-Here.object c.in-Here.is (c.in_ok-object.ensures.told v is) in
    told v.now c.args.limits.now.content 0 (name_of kinds.DirMeta c.args.meta.now) _ _ c.in-Here.object.bytes it.stored (λ e m. m) (λ m x. record { bytes = _; stored = it.stored; reads = x }) c.attributes_of.result c.attributes_of.ensures

pub returns-in-Here-clause-folder : goal.returns-in-Here-clause-folder
returns-in-Here-clause-folder g c = of_reads c.in-Here.object.bytes _ c.attributes_of.ensures
