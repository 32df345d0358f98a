use Rattle.memory_record.proofs.Trailing.{shows_all_synced, shows_spoiled}
use Rattle.memory_record.proofs.trail.Trail.forget.Goals as goal

pub returns : goal.returns
returns c = λ v fill s. (shows_all_synced c.args.self.now v c.new.result c.new.ensures s, shows_spoiled c.args.self.now v c.new.result fill c.new.ensures s)
