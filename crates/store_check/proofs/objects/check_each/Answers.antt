use Rattle.std.proofs.Common.{◌∙◌, arith}
use Rattle.fs_trait.proofs.Quiet.{IsQuiet-refl, IsQuiet-trans}
use Rattle.store_check.specs.Objects.{IsSound}
use Rattle.store_check.proofs.Firsts.{none_so_far}
use Rattle.store_check.proofs.Damages.{every_sound}
use Rattle.store_check.proofs.objects.check_each.Goals as goal

pub groups-init : goal.groups-init
groups-init g c = record {
  done = λ v told. record { sound = none_so_far (IsSound v.now c.args.limits.now.content) c.args.names.now; theirs = c.new-kept.ensures v.now };
  quiet = IsQuiet-refl _ _ _;
  room = omega arith;
  faults = omega arith;
}

pub groups-preserved : goal.groups-preserved
groups-preserved g c =
    let i = c.groups.invariant in
    record {
      done = λ v told. c.in_ok-from.ensures.told v (i.quiet.view ∙ told);
      quiet = IsQuiet-trans _ _ _ _ _ _ _ _ _ i.quiet c.check_group.ensures.quiet;
      room = omega (arith, i.room, c.check_group.ensures.keeps_room);
      faults = omega (arith, i.faults, c.check_group.ensures.cause.later);
    }

pub returns-clause-told : goal.returns-clause-told
returns-clause-told g c = λ v told.
    let done = c.groups.invariant.done v told in
    (every_sound v.now c.args.limits.now.content c.args.names.now (c.requires v told) c.groups.from c.groups-test.false done.sound, done.theirs)
