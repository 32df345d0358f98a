use Rattle.memory_table.proofs.Holding.{on_ok}
use Rattle.memory_record.proofs.Following.{extended_shows}
use Rattle.memory_record.proofs.state.State.extend.Goals as goal

pub returns : goal.returns
returns c = on_ok c.extend.result _ _ (λ step v. extended_shows c.args.self.now _ v c.args.inode c.args.bytes.now (λ q. c.in_ok-insert.ensures.updates.0 q) step) c.extend.ensures
