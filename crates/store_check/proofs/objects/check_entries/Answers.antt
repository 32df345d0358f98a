use Rattle.std.proofs.Common.{◌∙◌, refl, sym, subst, arith}
use Rattle.fs_trait.proofs.Quiet.{IsQuiet-refl}
use Rattle.store_check.specs.Groups.{IsWrong}
use Rattle.store_check.proofs.Grouping.{entry_ends, entry_sound, entry_wrong, sound_from}
use Rattle.store_check.proofs.objects.check_entries.Goals as goal

pub loop-entry-init : goal.loop-entry-init
loop-entry-init g c = record {
  sound = λ v told. sound_from v.now c.args.limits.now.content c.args._names.now c.args._from _ (omega arith) (c.requires.before v told);
  quiet = IsQuiet-refl _ _ _;
  room = omega arith;
  faults = omega arith;
}

pub loop-entry-preserved : goal.loop-entry-preserved
loop-entry-preserved g c =
    let i = c.loop-entry.invariant in
    record {
      sound = λ v told. entry_sound v.now c.args.limits.now.content c.args._names.now c.args._from c.args.entries.now (c.requires.tested v told) c.loop-entry.entry-index c.entry-item.result c.loop-entry-test.true c.entry-item.is c.in-None.is (i.sound v told) _ refl;
      quiet = i.quiet;
      room = i.room;
      faults = i.faults;
    }

pub stopped-requires : goal.stopped-requires
stopped-requires g c = λ v told.
    let i = c.loop-entry.invariant in
    let was = sym i.quiet.view ∙ told in
    subst (λ f. IsWrong v.now c.args.limits.now.content c.entry-item.result.name f) (sym c.load_fault.ensures) (entry_wrong v.now c.args.limits.now.content c.args._names.now c.args._from c.args.entries.now (c.requires.tested v was) c.loop-entry.entry-index c.entry-item.result c.loop-entry-test.true c.entry-item.is c.in-Some.fault c.in-Some.is)

pub returns-in-Some-clause-told : goal.returns-in-Some-clause-told
returns-in-Some-clause-told g c = λ v told.
    let i = c.loop-entry.invariant in
    entry_ends v.now c.args.limits.now.content c.args._names.now c.args._from c.args.entries.now (c.requires.tested v told) c.loop-entry.entry-index c.entry-item.result c.loop-entry-test.true c.entry-item.is (c.requires.all v told) (i.sound v told) c.load_fault.result c.stopped.result (c.stopped.ensures.told v (i.quiet.view ∙ told))
