use Rattle.rely_guarantee.proofs.Headlines.{headline}
use Rattle.rely_guarantee.proofs.crash.certify.Goals as goal

pub returns : goal.returns
returns g c = λ v told. headline g.F.Fs.view g.F.Fs.clock g.F.Fs.spare g.F.Fs.was c.args._base.now c.requires v told (g.met.F.Fs.tree c.args._base.now.fs v told)
