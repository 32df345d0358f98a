use Rattle.durable_store.specs.Known.{KnownBytes}
use Rattle.durable_store.proofs.Knowing.{alone_known, known_on}
use Rattle.durable_store.proofs.laws.bytes_are_known.Goals as goal

pub returns-clause-goes_on : goal.returns-clause-goes_on
returns-clause-goes_on g c opening old new v w moment told time may keeps = known_on g.F.Fs.view g.F.Fs.clock g.F.Fs.was g.met.F.Fs.only_now (KnownBytes opening g.B.Storing.brings) old new v w moment told time may keeps

pub returns-clause-left : goal.returns-clause-left
returns-clause-left g c opening fs v moment t d one keeps from left = alone_known opening g.B.Storing.brings one d (keeps.left t d from left)

pub returns-clause-seen : goal.returns-clause-seen
returns-clause-seen g c opening fs v u moment t one keeps from had = alone_known opening g.B.Storing.brings one u.now (keeps.seen t u from had)
