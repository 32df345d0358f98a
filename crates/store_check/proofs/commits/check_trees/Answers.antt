use Rattle.std.proofs.Common.{◌∙◌, refl, sym, subst, arith}
use Rattle.std.proofs.lemmas.Result.{err_from_is_err_and}
use Rattle.fs_trait.proofs.Quiet.{IsQuiet-refl, IsQuiet-trans}
use Rattle.store_check.specs.Listing.{AreAll}
use Rattle.store_check.proofs.Firsts.{none_so_far, one_more}
use Rattle.store_check.proofs.Folding.{known_none}
use Rattle.store_check.proofs.Wholes.{PassesName, every_whole, first_incomplete}
use Rattle.store_check.proofs.commits.check_trees.Goals as goal

pub loop-name-init : goal.loop-name-init
loop-name-init g c = record {
  whole = λ v told. none_so_far (PassesName v.now c.args.limits.now) c.as_slice-name-items.result.now;
  known = λ v told. known_none v.now c.args.limits.now.content _ c.new-known.ensures.empty;
  quiet = IsQuiet-refl _ _ _;
  room = omega arith;
  faults = omega arith;
}

pub loop-name-preserved : goal.loop-name-preserved
loop-name-preserved g c =
    let i = c.loop-name.invariant in
    record {
      whole = λ v told. one_more (PassesName v.now c.args.limits.now) c.as_slice-name-items.result.now c.loop-name.name-index c.name-item.result c.loop-name-test.true c.name-item.is (c.in_ok-check_name.ensures.told v (i.quiet.view ∙ told)) (i.whole v told) _ refl;
      known = λ v told. c.in_ok-check_name.ensures.known v (i.quiet.view ∙ told);
      quiet = IsQuiet-trans _ _ _ _ _ _ _ _ _ i.quiet c.check_name.ensures.quiet;
      room = omega (arith, i.room, c.check_name.ensures.keeps_room);
      faults = omega (arith, i.faults, c.check_name.ensures.cause.later);
    }

pub returns-in_err-check_name-clause-told : goal.returns-in_err-check_name-clause-told
returns-in_err-check_name-clause-told g c = λ v told.
    let i = c.loop-name.invariant in
    let error = err_from_is_err_and c.from_residual.result c.from_residual.ensures.1 in
    rw (error.1, error.2) (first_incomplete v.now c.args.limits.now c.as_slice-name-items.result.now (subst (AreAll v.now) (sym c.as_slice-name-items.ensures.value) (c.requires v told).sound.all) c.loop-name.name-index c.name-item.result c.loop-name-test.true c.name-item.is (i.whole v told) _ (c.in_err-check_name.ensures.told v (i.quiet.view ∙ told)))

pub returns-clause-told : goal.returns-clause-told
returns-clause-told g c = λ v told. every_whole v.now c.args.limits.now c.as_slice-name-items.result.now (subst (AreAll v.now) (sym c.as_slice-name-items.ensures.value) (c.requires v told).sound.all) c.loop-name.name-index c.loop-name-test.false (c.loop-name.invariant.whole v told)
