use Rattle.top_call.proofs.Fits.{all_idle, as_many}
use Rattle.step_runner.proofs.acts.run_opened.Goals as goal

pub run_counted-requires : goal.run_counted-requires
run_counted-requires g c =
    let made = c.in-Ok.ensures in
    record {
      few = as_many c.args.opened.limits c.args.lanes.items c.in-Ok.lanes.items made.words made.unbegun c.requires.short c.requires.fit c.requires.few;
      idle = all_idle c.args.opened.limits c.args.lanes.items c.in-Ok.lanes.items made.words made.unbegun c.requires.short c.requires.fit;
    }
