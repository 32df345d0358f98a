use Rattle.std.proofs.Common.{◌∙◌, ap, map}
use Rattle.lane_system.specs.Family.{fs_spec}
use Rattle.commands.specs.Family.{Lane, program}
use Rattle.commands.specs.Lanes.{replies_of}
use Rattle.top_call.proofs.Bytes.{known_after}
use Rattle.top_call.proofs.Runs.{room_kept}
use Rattle.top_call.proofs.Standing.{stands_after}
use Rattle.rely_guarantee.specs.declared.books.Start.{Start}
use Rattle.top_call.proofs.lanes.run_prepared.Goals as goal

pub end_of-requires : goal.end_of-requires
end_of-requires g c =
    room_kept c.args.prepared.lanes.items c.in-Ok.system.lanes c.run_by.new.system.lanes c.into_parts.result.lanes.items c.args.prepared.room.items
    c.in-Ok.ensures.parts.3 c.run_by.ensures.driven.commands c.into_parts.ensures.parts.3 c.run_by.ensures.ended c.requires.room

pub returns-in-Ok-clause-ran : goal.returns-in-Ok-clause-ran
returns-in-Ok-clause-ran g c =
    let f = fs_spec g.F.Fs.view g.F.Fs.clock g.F.Fs.spare g.F.Fs.was g.F.Fs.faults g.F.Watch.refused in
    let s = c.run_by.new.system in
    let begun = c.in-Ok.ensures in
    let run = c.run_by.ensures in
    let parts = c.into_parts.ensures in
    let end = c.end_of.ensures in
    record {
      system = s;
      disk = end.same.0 ∙ parts.parts.0;
      changes = ap (λ h. h.items) (end.same.1 ∙ parts.parts.1);
      change = end.same.2 ∙ parts.parts.2;
      given = end.replies ∙ ap replies_of parts.parts.3;
      words = run.driven.commands ∙ ap (map (λ (l : Lane). l.words.items)) begun.parts.3;
      start = ap (λ (s : Start). s.refs.items) run.driven.later.0 ∙ begun.parts.1;
      deployments = ap (λ (s : Start). s.deployments.items) run.driven.later.0 ∙ begun.deployments;
      opening = run.driven.later.1 ∙ begun.parts.2;
      limits = run.driven.later.4 ∙ begun.bounds.0;
      ended = run.ended;
      headline = run.headline;
      replied = run.replied;
      caused = run.driven.preserves.caused (g.F.Fs.faults c.args.opened.fs) begun.caused;
      ends = c.certify.ensures.ends;
      swept = c.certify.ensures.swept;
      stands = λ v told. (let there = ap g.F.Fs.view begun.parts.0 ∙ told in
          stands_after f program c.in-Ok.system s (g.F.Fs.faults c.args.opened.fs) v v there run.driven.preserves (begun.stands v there));
      known = λ opening v told holds. known_after f program c.in-Ok.system s c.args.opened.fs c.args.opened.clock opening v begun.parts.0 begun.parts.2 told run.driven.preserves holds;
      boots = λ v told. (let there = ap g.F.Fs.view begun.parts.0 ∙ told in run.driven.preserves.boots c.args.opened.rows v there (begun.boots v there));
    }
