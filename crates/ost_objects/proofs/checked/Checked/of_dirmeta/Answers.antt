use Rattle.ost_objects.proofs.Makes.{meta_formed}
use Rattle.ost_objects.proofs.checked.Checked.of_dirmeta.Goals as goal

pub named-requires : goal.named-requires
named-requires c = meta_formed c.args.value.now.meta c.args.limits.now.content _ c.meta_numbers.ensures.uid c.meta_numbers.ensures.gid c.meta_numbers.ensures.mode c.args.value.now.folder c.in_ok-bytes.ensures
