use Rattle.rely_guarantee.proofs.Sounds.{IsFs}
use Rattle.rely_guarantee.proofs.Publishing.{blocked_acts}
use Rattle.rely_guarantee.proofs.act.store.Given as given
use Rattle.rely_guarantee.proofs.act.store.Goals as goal

module _ (g : given.Over) where
  fs : IsFs g.F.Fs.view g.F.Fs.clock g.F.Fs.was
  fs = record { only_now = g.met.F.Fs.only_now; bound = g.met.F.Fs.bound; told = g.met.F.Fs.told }

pub returns-then-not-is_free-clause-acts : goal.returns-then-not-is_free-clause-acts
returns-then-not-is_free-clause-acts g c = blocked_acts g.F.Fs.view g.F.Fs.clock g.F.Fs.spare g.F.Fs.was (fs g) g.met.T.CommandTask.laws c.args.base.now c.args.actor c.args.lane c.args.task.now c.requires.ready
