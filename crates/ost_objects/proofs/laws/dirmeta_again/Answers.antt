use Rattle.ost_objects.proofs.Backs.{meta_back}
use Rattle.ost_objects.proofs.laws.dirmeta_again.Goals as goal

pub returns : goal.returns
returns c = λ bytes answer form reads. meta_back (λ d. d.meta) c.args.value.now.meta bytes (record { uid = c.meta_numbers.ensures.uid; gid = c.meta_numbers.ensures.gid; mode = c.meta_numbers.ensures.mode }) c.args.value.now.folder form answer reads
