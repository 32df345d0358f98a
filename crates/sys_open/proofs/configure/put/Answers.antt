use Rattle.std.proofs.Common.{rules, arith, ◌≡◌}
use Rattle.std.proofs.lemmas.Result.{err_from_is_err_and}
use Rattle.fs_trait.proofs.Kept.{weaker}
use Rattle.fs_trait.proofs.Quiet.{IsQuiet-refl}
use Rattle.staged_file.specs.declared.phase.Phase.TheVariants.{Ended}
use Rattle.staged_file.specs.Steps.{Needs, WritesOf}
use Rattle.staged_file.specs.Whole.{Written}
use Rattle.staged_file.proofs.Wholes.{told_once, IsSame-refl, IsSame-trans, same_stepped, stops}
use Rattle.sys_open.specs.Changes.{Puts}
use Rattle.sys_open.proofs.Configuring.{lasts_now, puts_in, puts_same, puts_written}
use Rattle.sys_open.proofs.Working.{works_call, works_quiet, works_then}
use Rattle.sys_open.proofs.configure.put.Goals as goal

pub loop-task-init : goal.loop-task-init
loop-task-init g c = record {
  same = IsSame-refl c.args.task;
  needs = c.requires;
  run = λ v told. works_quiet _ v _ _ _ _ _ _ told (IsQuiet-refl _ _ _);
  later = omega arith;
  faults = omega arith;
}

pub loop-task-preserved : goal.loop-task-preserved
loop-task-preserved g c =
    let i = c.loop-task.invariant in
    let same = IsSame-trans _ _ _ i.same (same_stepped _ _ _ c.step.ensures.stepped) in
    let rose = c.step.ensures.cause.later in
    let before = i.faults in
    let went = c.step.ensures.time.later in
    let began = i.later in
    record {
      same = same;
      needs = λ w told.
          let before = g.met.F.Fs.told _ c.loop-task.fs w told in
          told_once (λ w. Needs _ w) _ (c.in_ok-step.ensures.after before.0 before.1) w told;
      run = λ v told.
          let so_far = i.run v told in
          let u = so_far.left.0 in
          works_then (Puts c.args.task.stage c.args.task.at c.args.task.meta c.args.task.bytes) (WritesOf c.loop-task.task u) v u _ _ _ _ _ _ _ _ so_far.left.1 so_far
          (works_call (WritesOf c.loop-task.task u) u _ _ _ _ _ (g.met.F.Fs.only_now c.step.new.fs) c.step.ensures.time (c.step.ensures.writes u so_far.left.1))
          (λ p s h. puts_same c.args.task c.loop-task.task i.same p s (puts_in c.loop-task.task.phase c.loop-task.task u p s h));
      later = omega (arith, went, began);
      faults = omega (arith, rose, before);
    }

pub returns-in_err-step-clause-works : goal.returns-in_err-step-clause-works
returns-in_err-step-clause-works g c = λ v told.
    let i = c.loop-task.invariant in
    let so_far = i.run v told in
    let u = so_far.left.0 in
    works_then (Puts c.args.task.stage c.args.task.at c.args.task.meta c.args.task.bytes) (WritesOf c.loop-task.task u) v u _ _ _ _ _ _ _ _ so_far.left.1 so_far
    (works_call (WritesOf c.loop-task.task u) u _ _ _ _ _ (g.met.F.Fs.only_now c.step.new.fs) c.step.ensures.time (c.step.ensures.writes u so_far.left.1))
    (λ p s h. puts_same c.args.task c.loop-task.task i.same p s (puts_in c.loop-task.task.phase c.loop-task.task u p s h))

pub returns-in_err-step-clause-fails : goal.returns-in_err-step-clause-fails
returns-in_err-step-clause-fails g c = λ v told.
    let i = c.loop-task.invariant in
    let so_far = i.run v told in
    let u = so_far.left.0 in
    let writes = weaker _ (Written c.args.task) v u (puts_written c.args.task) so_far.left.2 in
    let error = err_from_is_err_and c.from_residual.result c.from_residual.ensures.1 in
    rw (error.1, error.2) (stops c.args.task v (c.requires v told) u writes c.loop-task.task i.same (i.needs u so_far.left.1) _ (c.in_err-step.ensures.fails u so_far.left.1))

pub returns-clause-works : goal.returns-clause-works
returns-clause-works g c = λ v told. c.loop-task.invariant.run v told

pub returns-clause-there : goal.returns-clause-there
returns-clause-there g c = λ v told.
    let i = c.loop-task.invariant in
    let now = (i.run v told).left in
    let ended : c.loop-task.task.phase ≡ Ended = search rules in
    (now.0, now.1, lasts_now c.args.task c.loop-task.task i.same now.0 (i.needs now.0 now.1) ended)
