use Rattle.ost_types.specs.declared.object.Kind.TheVariants as kinds
use Rattle.prune_mark.proofs.Told.{told}
use Rattle.prune_mark.proofs.objects.links_of.Goals as goal

pub returns-in-Ok-clause-told : goal.returns-in-Ok-clause-told
returns-in-Ok-clause-told g c = λ v is.
    told v.now c.args.limits.now.content kinds.Commit c.args.commit.now _ _ c.in-Ok.object.bytes (c.in-Ok.ensures.told v is) (λ e m. m) (λ links x. (x.0, record { bytes = _; stored = c.in-Ok.ensures.told v is; reads = x.1 }, x.2)) c.links_in.result c.links_in.ensures
