use Rattle.durable_deployments.proofs.Staying.{deployments_begin, deployments_on}
use Rattle.durable_deployments.proofs.laws.deployments_stay.Goals as goal

pub returns-clause-begins : goal.returns-clause-begins
returns-clause-begins g c limits rows fs v moment told late stand = deployments_begin g.F.Fs.view g.F.Fs.clock g.F.Fs.was g.met.F.Fs.only_now g.met.F.Fs.tree limits rows fs v moment told late stand

pub returns-clause-goes_on : goal.returns-clause-goes_on
returns-clause-goes_on g c limits rows old new v w moment told time spared keeps = deployments_on g.F.Fs.view g.F.Fs.clock g.F.Fs.was g.met.F.Fs.only_now g.met.F.Fs.tree limits rows old new v w moment told time spared keeps
