use Rattle.ost_forms.specs.CommitRow.{parts_of}
use Rattle.ost_objects.proofs.Backs.{commit_back}
use Rattle.ost_objects.proofs.laws.commit_again.Goals as goal

pub returns : goal.returns
returns c = λ bytes answer form reads. commit_back parts_of _ bytes c.commit_sums.ensures.sums c.commit_sums.ensures.time form answer reads
