use Rattle.lane_system.specs.Family.{fs_spec}
use Rattle.top_call.proofs.Fits.{all_idle, as_many}
use Rattle.top_call.proofs.Runs.{ran_words}
use Rattle.top_call.proofs.lanes.run_opened.Goals as goal

pub run_prepared-requires : goal.run_prepared-requires
run_prepared-requires g c = record {
  few = as_many c.args.opened.limits c.args.lanes.items c.in-Ok.prepared.lanes.items c.in-Ok.ensures.words c.in-Ok.ensures.unbegun c.requires.short c.requires.fit c.requires.few;
  idle = all_idle c.args.opened.limits c.args.lanes.items c.in-Ok.prepared.lanes.items c.in-Ok.ensures.words c.in-Ok.ensures.unbegun c.requires.short c.requires.fit;
  room = c.in-Ok.ensures.room;
}

pub returns-in-Ok-clause-ran : goal.returns-in-Ok-clause-ran
returns-in-Ok-clause-ran g c = ran_words (fs_spec g.F.Fs.view g.F.Fs.clock g.F.Fs.spare g.F.Fs.was g.F.Fs.faults g.F.Watch.refused) c.args.opened _ _ c.run_prepared.result c.in-Ok.ensures.words c.run_prepared.ensures.ran
