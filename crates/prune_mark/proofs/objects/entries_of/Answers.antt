use Rattle.ost_types.specs.declared.object.Kind.TheVariants as kinds
use Rattle.prune_mark.proofs.Told.{told}
use Rattle.prune_mark.proofs.objects.entries_of.Goals as goal

pub returns-in-Ok-clause-told : goal.returns-in-Ok-clause-told
returns-in-Ok-clause-told g c = λ v is.
    told v.now c.args.limits.now.content kinds.DirTree c.args.tree.now _ _ c.in-Ok.object.bytes (c.in-Ok.ensures.told v is) (λ e m. m) (λ t x. record { bytes = _; stored = c.in-Ok.ensures.told v is; reads = x }) c.entries_in.result c.entries_in.ensures
