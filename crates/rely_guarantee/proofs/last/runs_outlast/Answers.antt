use Rattle.rely_guarantee.proofs.Sounds.{IsFs}
use Rattle.rely_guarantee.proofs.Lasting.{lasts_refl, lasts_then}
use Rattle.rely_guarantee.proofs.last.runs_outlast.Given as given
use Rattle.rely_guarantee.proofs.last.runs_outlast.Goals as goal

module _ (g : given.Over) where
  fs : IsFs g.F.Fs.view g.F.Fs.clock g.F.Fs.was
  fs = record { only_now = g.met.F.Fs.only_now; bound = g.met.F.Fs.bound; told = g.met.F.Fs.told }

pub returns-clause-begins : goal.returns-clause-begins
returns-clause-begins g c = lasts_refl g.F.Fs.view g.F.Fs.clock g.F.Fs.was (fs g)

pub returns-clause-goes_on : goal.returns-clause-goes_on
returns-clause-goes_on g c = lasts_then g.F.Fs.view g.F.Fs.clock g.F.Fs.was (fs g)
