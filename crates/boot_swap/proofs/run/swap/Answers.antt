use Rattle.std.proofs.Common.{◌∙◌, Ok, subst, arith}
use Rattle.fs_trait.specs.Image.{EachImage}
use Rattle.fs_trait.proofs.Runs.{begins, goes_on}
use Rattle.boot_swap.specs.Swap.{IsStepped}
use Rattle.boot_swap.specs.Steps.{Needs}
use Rattle.boot_swap.specs.Whole.{Leaves}
use Rattle.boot_swap.proofs.Runs.{begins_needs, begins_runs, ended_boots, leaves_on, runs_end, runs_on, told_once, writes_on}
use Rattle.boot_swap.proofs.run.swap.Goals as goal

pub steps-init : goal.steps-init
steps-init g c = record {
  same = c.new-task.ensures.list;
  needs = λ v told. begins_needs c.args.items.items c.new-task.result v c.new-task.ensures c.requires.items (c.requires.may v told);
  run = λ v told.
      let runs = begins_runs c.args.items.items c.new-task.result v c.new-task.ensures in (
        (v, told, runs),
        begins (Leaves c.args.items.items v) _ _ (g.F.Fs.view c.args.fs.now) (λ w was. g.met.F.Fs.only_now c.args.fs.now _ w (omega arith) was)
            (λ w is. told_once (λ w. EachImage w (Leaves c.args.items.items v)) _ (v, told, runs.leaves) w is),
      );
  faults = omega arith;
}

pub steps-preserved : goal.steps-preserved
steps-preserved g c =
    let i = c.steps.invariant in
    let stepped = subst (λ r. IsStepped c.steps.task (Ok r) c.step.new.self) c.in-More.is c.in_ok-step.ensures.stepped in
    let rose = c.step.ensures.cause.later in
    let before = i.faults in
    record {
      same = stepped.0 ∙ i.same;
      needs = λ w told.
          let before = g.met.F.Fs.told _ c.steps.fs w told in
          told_once (λ w. Needs c.step.new.self w) _ (c.in_ok-step.ensures.after before.0 before.1) w told;
      run = λ v told.
          let before = i.run v told in
          let w = before.0.0 in
          let e = before.0.1 in
          let wrote = c.step.ensures.writes w e in
          let tree = g.met.F.Fs.tree c.steps.fs w e in
          let late = g.met.F.Fs.tree _ wrote.0 wrote.1 in
          let after = told_once (λ x. Needs c.step.new.self x) _ (c.in_ok-step.ensures.after w e) wrote.0 wrote.1 in
          let runs = runs_on c.args.items.items c.steps.task i.same v w wrote.0 tree late (i.needs w e) before.0.2 wrote.2 c.step.new.self stepped.0 stepped.1 (c.in_ok-step.ensures.tells w e) after in (
            (wrote.0, wrote.1, runs),
            goes_on (Leaves c.args.items.items v) _ _ _ _ _ _ _ before.1 c.step.ensures.time
                (λ x is. told_once (λ x. EachImage x (Leaves c.args.items.items v)) _ (wrote.0, wrote.1, runs.leaves) x is),
          );
      faults = omega (arith, rose, before);
    }

pub returns-in_err-step-clause-any_moment : goal.returns-in_err-step-clause-any_moment
returns-in_err-step-clause-any_moment g c = λ v told.
    let i = c.steps.invariant in
    let before = i.run v told in
    let w = before.0.0 in
    let e = before.0.1 in
    let wrote = c.step.ensures.writes w e in
    let leaves = leaves_on c.args.items.items c.steps.task i.same v w wrote.0 (g.met.F.Fs.tree c.steps.fs w e) (g.met.F.Fs.tree _ wrote.0 wrote.1) (i.needs w e) before.0.2 wrote.2 in
    goes_on (Leaves c.args.items.items v) _ _ _ _ _ _ _ before.1 c.step.ensures.time
    (λ x is. told_once (λ x. EachImage x (Leaves c.args.items.items v)) _ (wrote.0, wrote.1, leaves) x is)

pub returns-in-Done-clause-any_moment : goal.returns-in-Done-clause-any_moment
returns-in-Done-clause-any_moment g c = λ v told.
    let i = c.steps.invariant in
    let before = i.run v told in
    let w = before.0.0 in
    let e = before.0.1 in
    let wrote = c.step.ensures.writes w e in
    let leaves = leaves_on c.args.items.items c.steps.task i.same v w wrote.0 (g.met.F.Fs.tree c.steps.fs w e) (g.met.F.Fs.tree _ wrote.0 wrote.1) (i.needs w e) before.0.2 wrote.2 in
    goes_on (Leaves c.args.items.items v) _ _ _ _ _ _ _ before.1 c.step.ensures.time
    (λ x is. told_once (λ x. EachImage x (Leaves c.args.items.items v)) _ (wrote.0, wrote.1, leaves) x is)

pub returns-in_err-step-clause-writes : goal.returns-in_err-step-clause-writes
returns-in_err-step-clause-writes g c = λ v told.
    let i = c.steps.invariant in
    let before = i.run v told in
    let w = before.0.0 in
    let e = before.0.1 in
    let wrote = c.step.ensures.writes w e in
    (wrote.0, wrote.1, writes_on c.args.items.items c.steps.task i.same v w wrote.0 (g.met.F.Fs.tree c.steps.fs w e) (g.met.F.Fs.tree _ wrote.0 wrote.1) (i.needs w e) before.0.2 wrote.2)

pub returns-in-Done-clause-writes : goal.returns-in-Done-clause-writes
returns-in-Done-clause-writes g c = λ v told.
    let i = c.steps.invariant in
    let before = i.run v told in
    let w = before.0.0 in
    let e = before.0.1 in
    let wrote = c.step.ensures.writes w e in
    (wrote.0, wrote.1, writes_on c.args.items.items c.steps.task i.same v w wrote.0 (g.met.F.Fs.tree c.steps.fs w e) (g.met.F.Fs.tree _ wrote.0 wrote.1) (i.needs w e) before.0.2 wrote.2)

pub returns-in-Done-clause-done : goal.returns-in-Done-clause-done
returns-in-Done-clause-done g c = λ v told.
    let i = c.steps.invariant in
    let before = i.run v told in
    let w = before.0.0 in
    let e = before.0.1 in
    let wrote = c.step.ensures.writes w e in
    let stepped = subst (λ r. IsStepped c.steps.task (Ok r) c.step.new.self) c.in-Done.is c.in_ok-step.ensures.stepped in
    let needs = told_once (λ x. Needs c.step.new.self x) _ (c.in_ok-step.ensures.after w e) wrote.0 wrote.1 in
    (wrote.0, wrote.1, ended_boots c.args.items.items c.step.new.self wrote.0 (g.met.F.Fs.tree _ wrote.0 wrote.1) (stepped.0 ∙ i.same) stepped.1 needs)

pub returns-in-Done-clause-loader : goal.returns-in-Done-clause-loader
returns-in-Done-clause-loader g c = λ v told.
    let i = c.steps.invariant in
    let before = i.run v told in
    let w = before.0.0 in
    let e = before.0.1 in
    let wrote = c.step.ensures.writes w e in
    let stepped = subst (λ r. IsStepped c.steps.task (Ok r) c.step.new.self) c.in-Done.is c.in_ok-step.ensures.stepped in
    (wrote.0, wrote.1, runs_end c.args.items.items c.steps.task i.same v w wrote.0 (g.met.F.Fs.tree c.steps.fs w e) (g.met.F.Fs.tree _ wrote.0 wrote.1) (i.needs w e) before.0.2 wrote.2 stepped.2)
