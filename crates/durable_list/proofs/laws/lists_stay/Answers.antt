use Rattle.durable_list.proofs.Staying.{list_begins, list_on}
use Rattle.durable_list.proofs.laws.lists_stay.Goals as goal

pub returns-clause-begins : goal.returns-clause-begins
returns-clause-begins g c rows fs v moment told late stands = list_begins g.F.Fs.view g.F.Fs.clock g.F.Fs.was g.met.F.Fs.only_now g.met.F.Fs.tree rows fs v moment told late stands

pub returns-clause-goes_on : goal.returns-clause-goes_on
returns-clause-goes_on g c rows old new v w moment told time spares keeps = list_on g.F.Fs.view g.F.Fs.clock g.F.Fs.was g.met.F.Fs.only_now g.met.F.Fs.tree rows old new v w moment told time spares keeps
