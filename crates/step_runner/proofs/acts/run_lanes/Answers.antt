use Rattle.std.proofs.Common.{sym, subst}
use Rattle.std.specs.Prelude.{All}
use Rattle.commands.specs.Family.{means}
use Rattle.commands.specs.Words.{words_of}
use Rattle.top_call.proofs.Fits.{few_lanes, fit_within, short_lanes}
use Rattle.step_runner.proofs.acts.run_lanes.Goals as goal

pub run_opened-requires : goal.run_opened-requires
run_opened-requires g c = record {
  few = few_lanes c.args.lanes.items c.requires.fit;
  short = short_lanes c.args.lanes.items c.requires.fit;
  fit = subst (λ limits. All (λ lane. All (λ x. means.fit limits (words_of x)) lane.commands.items) c.args.lanes.items) (sym c.in_ok-opened.ensures) (fit_within c.args.limits c.args.lanes.items c.requires.wide c.requires.fit);
}
