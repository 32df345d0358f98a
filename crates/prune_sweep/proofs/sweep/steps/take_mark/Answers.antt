use Rattle.prune_sweep.proofs.Takes.{taken_unless}
use Rattle.prune_sweep.proofs.sweep.steps.take_mark.Goals as goal

pub returns-in-Err-clause-effect : goal.returns-in-Err-clause-effect
returns-in-Err-clause-effect g c = λ v is.
    taken_unless c.args.mark.now v c.in-Err.refusal c.unless_missing.result (g.F.Fs.view c.unlink.new.self) c.unless_missing.ensures.away c.unless_missing.ensures.other (c.in-Err.ensures.effect v is)
