use Rattle.std.proofs.Common.{refl}
use Rattle.memory_record.proofs.Following.{all_synced_shows}
use Rattle.memory_record.proofs.state.State.sync_all.Goals as goal

pub returns : goal.returns
returns c = λ v. all_synced_shows c.args.self.now _ v refl c.new.ensures.empty
