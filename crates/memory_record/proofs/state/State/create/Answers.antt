use Rattle.memory_table.proofs.Holding.{on_ok}
use Rattle.memory_record.proofs.Following.{created_shows}
use Rattle.memory_record.proofs.state.State.create.Goals as goal

pub returns : goal.returns
returns c = on_ok c.create.result _ _ (λ step v. created_shows c.args.self.now _ v c.args.place.now c.args.meta c.args.inode (λ q. c.in_ok-insert.ensures.updates.0 q) step) c.create.ensures
