use Rattle.std.proofs.Common.{inl, refl}
use Rattle.rely_guarantee.proofs.Sounds.{IsFs}
use Rattle.rely_guarantee.proofs.Taken.{taken_lasts}
use Rattle.rely_guarantee.proofs.act.task_act.Given as given
use Rattle.rely_guarantee.proofs.act.task_act.Goals as goal

module _ (g : given.Over) where
  fs : IsFs g.F.Fs.view g.F.Fs.clock g.F.Fs.was
  fs = record { only_now = g.met.F.Fs.only_now; bound = g.met.F.Fs.bound; told = g.met.F.Fs.told }

pub returns-in-Quiet-clause-outlasts : goal.returns-in-Quiet-clause-outlasts
returns-in-Quiet-clause-outlasts g c = taken_lasts g.F.Fs.view g.F.Fs.clock g.F.Fs.spare g.F.Fs.was (fs g) g.met.T.CommandTask.laws c.args.base.now c.quiet.new.base c.args.actor c.args.lane c.args.task.now c.requires.by c.requires.ready c.quiet.ensures.wrote c.quiet.ensures.acts.does c.quiet.ensures.time (g.T.CommandTask.kind_of c.args.task.now) refl

pub returns-in-Store-clause-outlasts : goal.returns-in-Store-clause-outlasts
returns-in-Store-clause-outlasts g c = taken_lasts g.F.Fs.view g.F.Fs.clock g.F.Fs.spare g.F.Fs.was (fs g) g.met.T.CommandTask.laws c.args.base.now c.store.new.base c.args.actor c.args.lane c.args.task.now c.requires.by c.requires.ready c.store.ensures.wrote c.store.ensures.acts.does c.store.ensures.time (g.T.CommandTask.kind_of c.args.task.now) refl

pub returns-in-Take-clause-outlasts : goal.returns-in-Take-clause-outlasts
returns-in-Take-clause-outlasts g c = taken_lasts g.F.Fs.view g.F.Fs.clock g.F.Fs.spare g.F.Fs.was (fs g) g.met.T.CommandTask.laws c.args.base.now c.take.new.base c.args.lane c.args.lane c.args.task.now (inl refl) c.requires.ready c.take.ensures.wrote c.take.ensures.acts.does c.take.ensures.time (g.T.CommandTask.kind_of c.args.task.now) refl

pub returns-in-Claim-clause-outlasts : goal.returns-in-Claim-clause-outlasts
returns-in-Claim-clause-outlasts g c = taken_lasts g.F.Fs.view g.F.Fs.clock g.F.Fs.spare g.F.Fs.was (fs g) g.met.T.CommandTask.laws c.args.base.now c.claim.new.base c.args.lane c.args.lane c.args.task.now (inl refl) c.requires.ready c.claim.ensures.wrote c.claim.ensures.acts.does c.claim.ensures.time (g.T.CommandTask.kind_of c.args.task.now) refl

pub returns-in-Publish-clause-outlasts : goal.returns-in-Publish-clause-outlasts
returns-in-Publish-clause-outlasts g c = taken_lasts g.F.Fs.view g.F.Fs.clock g.F.Fs.spare g.F.Fs.was (fs g) g.met.T.CommandTask.laws c.args.base.now c.publish.new.base c.args.lane c.args.lane c.args.task.now (inl refl) c.requires.ready c.publish.ensures.wrote c.publish.ensures.acts.does c.publish.ensures.time (g.T.CommandTask.kind_of c.args.task.now) refl

pub returns-in-Published-clause-outlasts : goal.returns-in-Published-clause-outlasts
returns-in-Published-clause-outlasts g c = taken_lasts g.F.Fs.view g.F.Fs.clock g.F.Fs.spare g.F.Fs.was (fs g) g.met.T.CommandTask.laws c.args.base.now c.published.new.base c.args.lane c.args.lane c.args.task.now (inl refl) c.requires.ready c.published.ensures.wrote c.published.ensures.acts.does c.published.ensures.time (g.T.CommandTask.kind_of c.args.task.now) refl

pub returns-in-Remove-clause-outlasts : goal.returns-in-Remove-clause-outlasts
returns-in-Remove-clause-outlasts g c = taken_lasts g.F.Fs.view g.F.Fs.clock g.F.Fs.spare g.F.Fs.was (fs g) g.met.T.CommandTask.laws c.args.base.now c.remove.new.base c.args.lane c.args.lane c.args.task.now (inl refl) c.requires.ready c.remove.ensures.wrote c.remove.ensures.acts.does c.remove.ensures.time (g.T.CommandTask.kind_of c.args.task.now) refl

pub returns-in-MakeDurable-clause-outlasts : goal.returns-in-MakeDurable-clause-outlasts
returns-in-MakeDurable-clause-outlasts g c = taken_lasts g.F.Fs.view g.F.Fs.clock g.F.Fs.spare g.F.Fs.was (fs g) g.met.T.CommandTask.laws c.args.base.now c.make_durable.new.base c.args.lane c.args.lane c.args.task.now (inl refl) c.requires.ready c.make_durable.ensures.wrote c.make_durable.ensures.acts.does c.make_durable.ensures.time (g.T.CommandTask.kind_of c.args.task.now) refl
