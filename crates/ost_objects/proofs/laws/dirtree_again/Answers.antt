use Rattle.ost_objects.proofs.Backs.{tree_back}
use Rattle.ost_objects.proofs.laws.dirtree_again.Goals as goal

pub returns : goal.returns
returns c = λ bytes answer form reads. tree_back (λ t. record { files = t.files; folders = t.folders }) (record { files = c.args.value.now.files; folders = c.args.value.now.folders }) bytes c.tree_rules.ensures.sums c.tree_rules.ensures.names c.tree_rules.ensures.sorted form answer reads
