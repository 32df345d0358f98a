use Rattle.lane_system.specs.Replies.{IsTold}
use Rattle.commands.proofs.Bringing.{alone_on}
use Rattle.commands.proofs.laws.commits_are_alone.Goals as goal

pub returns : goal.returns
returns g c limits start history by lanes k e words s d replied at is changes alone = alone_on (IsTold g.F.Fs.view) limits start history by lanes replied k e words at is s.refs changes d alone
