use Rattle.ost_types.specs.declared.object.Kind.TheVariants as kinds
use Rattle.repo_model.specs.Trees.{name_of}
use Rattle.tree_read.proofs.Told.{found, told}
use Rattle.tree_read.proofs.objects.look_at_commit.Goals as goal

pub returns-in-Here-clause-told : goal.returns-in-Here-clause-told
returns-in-Here-clause-told g c = λ v is.
    let it = found v.now c.args.limits.now.content (name_of kinds.Commit c.args.commit.now) c.in_ok-object.field-0 c.in-Here.object c.in-Here.is (c.in_ok-object.ensures.told v is) in
    told v.now c.args.limits.now.content 0 (name_of kinds.Commit c.args.commit.now) _ _ c.in-Here.object.bytes it.stored (λ e m. m) (λ x p. record { bytes = _; stored = it.stored; reads = p }) c.commit_of.result c.commit_of.ensures
