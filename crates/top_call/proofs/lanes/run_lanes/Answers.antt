use Rattle.std.proofs.Common.{sym, subst}
use Rattle.std.specs.Prelude.{All}
use Rattle.lane_system.specs.Family.{fs_spec}
use Rattle.commands.specs.Family.{means}
use Rattle.commands.specs.Words.{words_of}
use Rattle.top_call.proofs.Bytes.{known_opened}
use Rattle.top_call.proofs.Completing.{caused_since}
use Rattle.top_call.proofs.Fits.{few_lanes, fit_within, short_lanes}
use Rattle.top_call.proofs.Outcomes.{back_from}
use Rattle.top_call.proofs.Rans.{answered, caused, ran}
use Rattle.top_call.proofs.Stops.{told_by, told_late, told_still, told_stop}
use Rattle.top_call.proofs.lanes.run_lanes.Goals as goal

pub run_opened-requires : goal.run_opened-requires
run_opened-requires g c = record {
  few = few_lanes c.args.lanes.items c.requires.fit;
  short = short_lanes c.args.lanes.items c.requires.fit;
  fit = subst (λ limits. All (λ lane. All (λ x. means.fit limits (words_of x)) lane.commands.items) c.args.lanes.items) (sym c.in-Ok.ensures.begun.1) (fit_within c.args.limits c.args.lanes.items c.requires.wide c.requires.fit);
}

pub returns-in-Ok-clause-ran : goal.returns-in-Ok-clause-ran
returns-in-Ok-clause-ran g c = λ v told.
    let o = c.in-Ok.ensures in
    let begins = o.begins v told in
    ran (fs_spec g.F.Fs.view g.F.Fs.clock g.F.Fs.spare g.F.Fs.was g.F.Fs.faults g.F.Watch.refused) c.in-Ok.opened c.args.limits v (g.F.Fs.clock c.args.fs) c.args.lanes.items c.run_opened.result
    (o.good v told).0 o.begun.1 o.opened.is begins (g.met.F.Fs.tree c.in-Ok.opened.fs begins.0 begins.1)
    (known_opened g.F.Fs.view g.F.Fs.clock g.F.Fs.was g.met.F.Fs.bound c.args.fs c.in-Ok.opened.fs c.in-Ok.opened.clock _ v begins.0 o.opened.is begins.2.opening begins.2.keeps (o.keeps v told) (o.works v told))
    (o.good v told).1 c.run_opened.ensures.ran

pub returns-in-Ok-clause-undone : goal.returns-in-Ok-clause-undone
returns-in-Ok-clause-undone g c = λ v told. back_from _ _ c.in-Ok.opened.fs c.run_opened.result c.run_opened.ensures.back (c.in-Ok.ensures.works v told)

pub returns-in-Ok-clause-answered : goal.returns-in-Ok-clause-answered
returns-in-Ok-clause-answered g c =
    answered (fs_spec g.F.Fs.view g.F.Fs.clock g.F.Fs.spare g.F.Fs.was g.F.Fs.faults g.F.Watch.refused) c.in-Ok.opened c.args.limits c.args.lanes.items c.run_opened.result c.in-Ok.ensures.begun.1 c.run_opened.ensures.ran

pub returns-in-Ok-clause-caused : goal.returns-in-Ok-clause-caused
returns-in-Ok-clause-caused g c =
    caused_since (g.F.Fs.faults c.args.fs) (g.F.Fs.faults c.in-Ok.opened.fs) g.F.Fs.faults c.run_opened.result c.in-Ok.ensures.later
    (caused (fs_spec g.F.Fs.view g.F.Fs.clock g.F.Fs.spare g.F.Fs.was g.F.Fs.faults g.F.Watch.refused) c.in-Ok.opened c.args.lanes.items c.run_opened.result c.run_opened.ensures.ran)

pub returns-in-Err-clause-told : goal.returns-in-Err-clause-told
returns-in-Err-clause-told g c = λ v told. told_stop _ c.in-Err.fault c.fault_of-told.result c.fault_of-told.ensures c.args.limits v.now (c.in-Err.ensures.told v told)

pub returns-in-Err-clause-still : goal.returns-in-Err-clause-still
returns-in-Err-clause-still g c = λ v told. told_still _ c.in-Err.fault c.fault_of-told.result c.fault_of-told.ensures _ (c.in-Err.ensures.still v told)

pub returns-in-Err-clause-late : goal.returns-in-Err-clause-late
returns-in-Err-clause-late g c = told_late _ c.in-Err.fault c.fault_of-told.result c.fault_of-told.ensures

pub returns-in-Err-clause-by : goal.returns-in-Err-clause-by
returns-in-Err-clause-by g c = told_by _ c.in-Err.fault c.fault_of-told.result c.fault_of-told.ensures _ _ c.in-Err.ensures.disk
