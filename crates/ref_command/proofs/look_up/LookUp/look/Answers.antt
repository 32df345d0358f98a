use Rattle.ref_command.proofs.look_up.LookUp.look.Goals as goal

pub returns-in_err-found-clause-tree : goal.returns-in_err-found-clause-tree
returns-in_err-found-clause-tree g c = g.met.F.Fs.tree c.args.fs.now

pub returns-clause-tree : goal.returns-clause-tree
returns-clause-tree g c = g.met.F.Fs.tree c.args.fs.now
