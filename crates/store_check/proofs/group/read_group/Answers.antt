use Rattle.std.proofs.Common.{◌≡◌, ◌+◌, ◌∷◌, [], length, refl, ◌∙◌, ap, arith}
use Rattle.std.proofs.lemmas.List.{get_or_default, length-append}
use Rattle.fs_trait.proofs.Quiet.{IsQuiet-trans}
use Rattle.store_check.proofs.Grouping.{group_stopped, group_whole, one_read, within_stopped, within_whole}
use Rattle.store_check.proofs.group.read_group.Goals as goal

pub returns-in-Err-clause-told : goal.returns-in-Err-clause-told
returns-in-Err-clause-told g c = λ v told.
    let i = c.loop-at.invariant in
    group_stopped v.now c.args.names.now c.args.from _ (i.read v told) c.loop-at.at i.place c.index-names-at.result c.in-Err.fault refl c.loop-at-test.true c.index-names-at.is (c.in-Err.ensures.stopped v (i.quiet.view ∙ told))

pub returns-in-Err-clause-within : goal.returns-in-Err-clause-within
returns-in-Err-clause-within g c = within_stopped c.args.names.now c.args.from _ (omega (arith, c.loop-at.invariant.place, c.loop-at-test.true))

pub loop-at-preserved : goal.loop-at-preserved
loop-at-preserved g c =
    let i = c.loop-at.invariant in
    let grown = c.in_ok-push-in-Ok.ensures.items in
    let longer : length c.push.new.self.items ≡ length c.loop-at.entries.items + 1 = ap length grown ∙ length-append c.loop-at.entries.items (c.in-Ok.entry ∷ []) in
    record {
      read = λ v told.
          let e = c.in-Ok.ensures.told v (i.quiet.view ∙ told) in
          one_read v.now c.args.names.now c.args.from c.loop-at.entries.items c.in-Ok.entry c.loop-at.at i.place c.loop-at-test.true (e.0 ∙ c.index-names-at.is ∙ get_or_default c.args.names.now c.loop-at.at c.index-names-at.result c.in-Ok.entry.name c.loop-at-test.true) e.1 c.push.new.self.items grown (i.read v told);
      place = omega (arith, i.place, longer);
      sized = λ none. absurd (omega (arith, none, longer));
      quiet = IsQuiet-trans _ _ _ _ _ _ _ _ _ i.quiet c.read.ensures.quiet;
      room = omega (arith, i.room, c.read.ensures.keeps_room);
      faults = omega (arith, i.faults, c.read.ensures.cause.later);
    }

pub returns-then-size-ge-GROUP-clause-told : goal.returns-then-size-ge-GROUP-clause-told
returns-then-size-ge-GROUP-clause-told g c = λ v told. group_whole v.now c.args.names.now c.args.from _ (c.loop-at.invariant.read v told) refl

pub returns-then-size-ge-GROUP-clause-within : goal.returns-then-size-ge-GROUP-clause-within
returns-then-size-ge-GROUP-clause-within g c = within_whole c.args.names.now c.args.from _ refl (omega (arith, c.loop-at.invariant.place, c.loop-at-test.true))

pub returns-clause-told : goal.returns-clause-told
returns-clause-told g c = λ v told. group_whole v.now c.args.names.now c.args.from _ (c.loop-at.invariant.read v told) refl

pub returns-clause-within : goal.returns-clause-within
returns-clause-within g c = within_whole c.args.names.now c.args.from _ refl (omega (arith, c.loop-at.invariant.place, c.loop-at.auto.at-end))

pub returns-clause-some : goal.returns-clause-some
returns-clause-some g c = λ none. omega (arith, c.loop-at.invariant.place, c.loop-at-test.false, c.requires)
