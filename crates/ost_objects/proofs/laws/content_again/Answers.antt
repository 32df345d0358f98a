use Rattle.ost_forms.proofs.OwnStreams.{header_wide}
use Rattle.ost_objects.proofs.Backs.{content_back}
use Rattle.ost_objects.proofs.laws.content_again.Goals as goal

pub returns : goal.returns
returns c = λ limit bytes answer form reads. content_back (λ x. x.meta) (λ x. x.body) c.args.value.now.meta c.args.value.now.body limit bytes (header_wide c.args.value.now.meta c.args.value.now.body c.meta_numbers.ensures.uid c.meta_numbers.ensures.gid c.meta_numbers.ensures.mode) c.args.value.now.fits form answer reads
