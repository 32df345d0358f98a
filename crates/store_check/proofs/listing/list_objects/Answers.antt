use Rattle.std.proofs.Common.{◌∙◌, ◌++◌, refl, ap, arith}
use Rattle.fs_trait.proofs.Quiet.{IsQuiet-refl, IsQuiet-trans}
use Rattle.store_check.proofs.Gathering.{none_below, more_below, all_names}
use Rattle.store_check.proofs.listing.list_objects.Goals as goal

pub loop-first-init : goal.loop-first-init
loop-first-init g c = record {
  below = λ v told. none_below v.now _ c.new-names.ensures.items;
  quiet = IsQuiet-refl _ _ _;
  room = omega arith;
  faults = omega arith;
}

pub loop-first-preserved : goal.loop-first-preserved
loop-first-preserved g c =
    let i = c.loop-first.invariant in
    record {
      below = λ v told. more_below v.now c.loop-first.first c.loop-first.names.items c.in_ok-part.part.items (i.below v told) (c.in_ok-part.ensures.told v (i.quiet.view ∙ told)) _ _ refl (c.in_ok-extend_from_slice.ensures.items ∙ ap (λ l. c.loop-first.names.items ++ l) c.as_slice.ensures.value);
      quiet = IsQuiet-trans _ _ _ _ _ _ _ _ _ i.quiet c.list_part.ensures.quiet;
      room = omega (arith, i.room, c.list_part.ensures.keeps_room);
      faults = omega (arith, i.faults, c.list_part.ensures.cause.later);
    }

pub returns-clause-told : goal.returns-clause-told
returns-clause-told g c = λ v told.
    let i = c.loop-first.invariant in
    all_names v.now c.loop-first.first c.loop-first.names.items c.loop-first-test.false (i.below v told)
