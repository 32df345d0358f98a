use Rattle.std.proofs.Common.{Ok, subst, arith}
use Rattle.std.proofs.lemmas.Result.{err_from_is_err_and}
use Rattle.fs_trait.specs.declared.types.FsErr.{FsErr}
use Rattle.fs_trait.specs.Image.{EachImage}
use Rattle.fs_trait.proofs.Runs.{begins, goes_on}
use Rattle.obj_store.proofs.Runs.{told_once}
use Rattle.commit_build.specs.Committing.{IsStepped}
use Rattle.commit_build.specs.Steps.{Needs, Tells}
use Rattle.commit_build.specs.Whole.{Leaves, IsCounted}
use Rattle.commit_build.proofs.Wholes.{runs_from, leaves_each, writes_on, each_image, goes}
use Rattle.commit_build.proofs.Counted.{counts_from, counts_on}
use Rattle.commit_build.proofs.Endings.{needs_new, stops, ends}
use Rattle.commit_build.proofs.commit.commit_tree.Goals as goal

pub steps-init : goal.steps-init
steps-init g c = record {
  needs = λ v told. needs_new c.args.task v (c.requires v told);
  run = λ v told.
      let runs = runs_from c.args.task v in (
        (v, told, record { runs = runs; counts = counts_from c.args.task v c.args.count }),
        begins (Leaves c.args.task v) _ _ (g.F.Fs.view c.args.fs.now) (λ w was. g.met.F.Fs.only_now c.args.fs.now _ w (omega arith) was)
            (λ w is. told_once (λ w. EachImage w (Leaves c.args.task v)) _ (v, told, leaves_each c.args.task v v runs.writes runs.children) w is),
      );
  faults = omega arith;
}

pub steps-preserved : goal.steps-preserved
steps-preserved g c =
    let i = c.steps.invariant in
    let stepped = subst (λ r. IsStepped {E = FsErr} c.steps.count c.steps.task (Ok r) c.step.new.self) c.in-More.is c.in_ok-step.ensures.stepped in
    let rose = c.step.ensures.cause.later in
    let before = i.faults in
    record {
      needs = λ w told.
          let before = g.met.F.Fs.told _ c.steps.fs w told in
          told_once (λ w. Needs _ w) _ (c.in_ok-step.ensures.after before.0 before.1) w told;
      run = λ v told.
          let before = i.run v told in
          let w = before.0.0 in
          let e = before.0.1 in
          let known = before.0.2 in
          let after = c.step.ensures.writes w e in
          let tells = subst (λ r. Tells c.steps.count c.steps.task c.step.new.self w after.0 r) c.in-More.is (told_once (λ x. Tells c.steps.count c.steps.task c.step.new.self w x _) _ (c.in_ok-step.ensures.tells w e) after.0 after.1) in
          let counted = subst (λ m. IsCounted c.steps.count m c.counted-count.result) c.met.ensures.met c.counted-count.ensures in (
            (
              after.0,
              after.1,
              record {
                runs = goes c.args.task v c.steps.task w (i.needs w e) known.runs after.0 after.2 FsErr c.steps.count c.step.new.self stepped;
                counts = counts_on c.args.task v c.args.count c.steps.task w c.steps.count (i.needs w e) known.runs known.counts after.0 after.2 c.step.new.self stepped tells _ counted;
              },
            ),
            goes_on (Leaves c.args.task v) _ _ _ _ _ _ _ before.1 c.step.ensures.time
                (λ x is. told_once (λ x. EachImage x (Leaves c.args.task v)) _ (after.0, after.1, each_image c.args.task v c.steps.task w (i.needs w e) known.runs after.0 after.2) x is),
          );
      faults = omega (arith, rose, before);
    }

pub returns-in_err-step-clause-any_moment : goal.returns-in_err-step-clause-any_moment
returns-in_err-step-clause-any_moment g c = λ v told.
    let i = c.steps.invariant in
    let before = i.run v told in
    let w = before.0.0 in
    let e = before.0.1 in
    let known = before.0.2 in
    let after = c.step.ensures.writes w e in
    goes_on (Leaves c.args.task v) _ _ _ _ _ _ _ before.1 c.step.ensures.time
    (λ x is. told_once (λ x. EachImage x (Leaves c.args.task v)) _ (after.0, after.1, each_image c.args.task v c.steps.task w (i.needs w e) known.runs after.0 after.2) x is)

pub returns-in_err-step-clause-writes : goal.returns-in_err-step-clause-writes
returns-in_err-step-clause-writes g c = λ v told.
    let i = c.steps.invariant in
    let before = i.run v told in
    let w = before.0.0 in
    let e = before.0.1 in
    let known = before.0.2 in
    let after = c.step.ensures.writes w e in
    (after.0, after.1, writes_on c.args.task v c.steps.task w (i.needs w e) known.runs after.0 after.2)

pub returns-in-Done-clause-any_moment : goal.returns-in-Done-clause-any_moment
returns-in-Done-clause-any_moment g c = λ v told.
    let i = c.steps.invariant in
    let before = i.run v told in
    let w = before.0.0 in
    let e = before.0.1 in
    let known = before.0.2 in
    let after = c.step.ensures.writes w e in
    goes_on (Leaves c.args.task v) _ _ _ _ _ _ _ before.1 c.step.ensures.time
    (λ x is. told_once (λ x. EachImage x (Leaves c.args.task v)) _ (after.0, after.1, each_image c.args.task v c.steps.task w (i.needs w e) known.runs after.0 after.2) x is)

pub returns-in-Done-clause-writes : goal.returns-in-Done-clause-writes
returns-in-Done-clause-writes g c = λ v told.
    let i = c.steps.invariant in
    let before = i.run v told in
    let w = before.0.0 in
    let e = before.0.1 in
    let known = before.0.2 in
    let after = c.step.ensures.writes w e in
    (after.0, after.1, writes_on c.args.task v c.steps.task w (i.needs w e) known.runs after.0 after.2)

pub returns-in-Done-clause-done : goal.returns-in-Done-clause-done
returns-in-Done-clause-done g c = λ v told.
    let i = c.steps.invariant in
    let before = i.run v told in
    let w = before.0.0 in
    let e = before.0.1 in
    let known = before.0.2 in
    let after = c.step.ensures.writes w e in
    let stepped = subst (λ r. IsStepped {E = FsErr} c.steps.count c.steps.task (Ok r) c.step.new.self) c.in-Done.is c.in_ok-step.ensures.stepped in
    let tells = subst (λ r. Tells c.steps.count c.steps.task c.step.new.self w after.0 r) c.in-Done.is (told_once (λ x. Tells c.steps.count c.steps.task c.step.new.self w x _) _ (c.in_ok-step.ensures.tells w e) after.0 after.1) in
    let needs = told_once (λ x. Needs c.step.new.self x) _ (c.in_ok-step.ensures.after w e) after.0 after.1 in
    (after.0, after.1, ends c.args.task v c.steps.task w (i.needs w e) known.runs c.args.count c.steps.count known.counts (c.requires v told).made after.0 after.2 c.step.new.self _ stepped tells needs)

pub returns-in_err-step-clause-fails : goal.returns-in_err-step-clause-fails
returns-in_err-step-clause-fails g c = λ v told.
    let i = c.steps.invariant in
    let before = i.run v told in
    let w = before.0.0 in
    let e = before.0.1 in
    let known = before.0.2 in
    let error = err_from_is_err_and c.from_residual.result c.from_residual.ensures.1 in
    rw (error.1, error.2) (stops c.args.task v c.steps.task w (i.needs w e) known.runs _ (c.in_err-step.ensures.fails w e))
