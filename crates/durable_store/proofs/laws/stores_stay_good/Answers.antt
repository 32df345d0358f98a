use Rattle.durable_store.proofs.Keepings.{good_begins, good_on}
use Rattle.durable_store.proofs.laws.stores_stay_good.Goals as goal

pub returns-clause-begins : goal.returns-clause-begins
returns-clause-begins g c limits names fs v moment told late stands few leads =
    good_begins g.F.Fs.view g.F.Fs.clock g.F.Fs.was g.met.F.Fs.only_now limits g.B.Storing.brings g.B.Storing.config names fs v moment told late stands few leads

pub returns-clause-goes_on : goal.returns-clause-goes_on
returns-clause-goes_on g c limits names next old new v w moment told time keeps stands few leads =
    good_on g.F.Fs.view g.F.Fs.clock g.F.Fs.was g.met.F.Fs.only_now limits g.B.Storing.brings g.B.Storing.config names next old new v w moment told time keeps stands few leads
