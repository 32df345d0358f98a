use Rattle.std.proofs.Common.{rules, ◌≡◌}
use Rattle.fs_trait.proofs.Kept.{same_view}
use Rattle.staged_file.specs.declared.phase.Phase.TheVariants.{Ended}
use Rattle.staged_file.specs.Steps.{Needs}
use Rattle.staged_file.specs.Whole.{Written}
use Rattle.staged_file.proofs.Wholes.{told_once, IsSame-refl, IsSame-trans, same_stepped, written_on}
use Rattle.staged_file_check.proofs.Starts.{there_as}
use Rattle.staged_file_check.proofs.one_file.step_on.Goals as goal

pub loop-task-init : goal.loop-task-init
loop-task-init g c = record {
  same = IsSame-refl c.args.task;
  needs = c.requires;
  run = λ v told. (v, told, same_view (Written c.args.task) v);
}

pub loop-task-preserved : goal.loop-task-preserved
loop-task-preserved g c =
    let i = c.loop-task.invariant in
    record {
      same = IsSame-trans _ _ _ i.same (same_stepped _ _ _ c.step.ensures.stepped);
      needs = λ w told.
          let before = g.met.F.Fs.told _ c.loop-task.fs w told in
          told_once (λ w. Needs _ w) _ (c.in_ok-step.ensures.after before.0 before.1) w told;
      run = λ v told.
          let before = i.run v told in
          let after = c.step.ensures.writes before.0 before.1 in
          (after.0, after.1, written_on c.args.task c.loop-task.task i.same v before.0 after.0 before.2 after.2);
    }

pub returns-in_err-step-clause-writes : goal.returns-in_err-step-clause-writes
returns-in_err-step-clause-writes g c = λ v told.
    let i = c.loop-task.invariant in
    let before = i.run v told in
    let after = c.step.ensures.writes before.0 before.1 in
    (after.0, after.1, written_on c.args.task c.loop-task.task i.same v before.0 after.0 before.2 after.2)

pub returns-clause-writes : goal.returns-clause-writes
returns-clause-writes g c = λ v told. c.loop-task.invariant.run v told

pub returns-clause-done : goal.returns-clause-done
returns-clause-done g c = λ v told.
    let i = c.loop-task.invariant in
    let now = i.run v told in
    let ended : c.loop-task.task.phase ≡ Ended = search rules in
    (now.0, now.1, there_as c.args.task c.loop-task.task i.same now.0 (i.needs now.0 now.1) ended)
