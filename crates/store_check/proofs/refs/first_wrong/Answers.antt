use Rattle.std.proofs.Common.{◌∙◌, refl, rules, arith}
use Rattle.fs_trait.proofs.Quiet.{IsQuiet-refl, IsQuiet-trans}
use Rattle.store_check.proofs.FirstRefs.{none_looked, add_first, first_of_all}
use Rattle.store_check.proofs.Remembering.{none_finished}
use Rattle.store_check.proofs.refs.first_wrong.Goals as goal

pub loop-entry-init : goal.loop-entry-init
loop-entry-init g c = record {
  first_is = λ v told. none_looked v.now c.args.refs.now _ refl;
  finished = λ v told. none_finished v.now _ (search rules);
  quiet = IsQuiet-refl _ _ _;
  room = omega arith;
  faults = omega arith;
}

pub loop-entry-preserved : goal.loop-entry-preserved
loop-entry-preserved g c =
    let i = c.loop-entry.invariant in
    record {
      first_is = λ v told. add_first v.now c.args.refs.now c.loop-entry.entry-index c.entry-item.result c.loop-entry-test.true c.entry-item.is c.loop-entry.first _ (i.first_is v told) (c.in_ok-first.ensures.told v (i.quiet.view ∙ told));
      finished = λ v told. c.in_ok-first.ensures.finished v (i.quiet.view ∙ told);
      quiet = IsQuiet-trans _ _ _ _ _ _ _ _ _ i.quiet c.add.ensures.quiet;
      room = omega (arith, i.room, c.add.ensures.keeps_room);
      faults = omega (arith, i.faults, c.add.ensures.cause.later);
    }

pub returns-clause-told : goal.returns-clause-told
returns-clause-told g c = λ v told. first_of_all v.now c.args.refs.now c.loop-entry.entry-index c.loop-entry.first c.loop-entry-test.false (c.loop-entry.invariant.first_is v told)
