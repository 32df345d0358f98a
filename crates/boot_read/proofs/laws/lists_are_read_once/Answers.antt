use Rattle.boot_read.proofs.Answered.{answered_once}
use Rattle.boot_read.proofs.laws.lists_are_read_once.Goals as goal

pub returns : goal.returns
returns c = answered_once
