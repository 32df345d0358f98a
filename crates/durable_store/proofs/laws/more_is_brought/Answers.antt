use Rattle.durable_store.proofs.Keepings.{good_wider}
use Rattle.durable_store.proofs.Steps.{keeps_wider, stands_wider}
use Rattle.durable_store.proofs.laws.more_is_brought.Goals as goal

pub returns-clause-stands : goal.returns-clause-stands
returns-clause-stands g c limits names v wider was = stands_wider limits g.B.Storing.brings g.C.Storing.brings g.B.Storing.config names v wider was

pub returns-clause-keeps : goal.returns-clause-keeps
returns-clause-keeps g c fs limits names moment v wider keeps = good_wider (g.F.Fs.was fs) limits g.B.Storing.brings g.C.Storing.brings g.B.Storing.config names moment v wider keeps

pub returns-clause-writes : goal.returns-clause-writes
returns-clause-writes g c limits v wider keeps = keeps_wider limits g.B.Storing.brings g.C.Storing.brings v g.S.Writing.writes wider keeps
