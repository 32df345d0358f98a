use Rattle.std.proofs.Common.{refl}
use Rattle.memory_record.proofs.Following.{file_synced_shows}
use Rattle.memory_record.proofs.state.State.sync_file.Goals as goal

pub returns : goal.returns
returns c = λ v. file_synced_shows c.args.self.now _ v c.args.inode refl (λ q. c.remove.ensures.updates.0 q)
