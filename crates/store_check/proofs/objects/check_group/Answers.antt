use Rattle.std.proofs.Common.{◌≡◌, ◌+◌, ◌<◌, ◌∙◌, length, slice_index_or, sym, subst, ap, arith}
use Rattle.store_check.specs.Groups.{AreTested}
use Rattle.store_check.proofs.Grouping.{sound_from, stop_ends, stop_wrong, stored, tested}
use Rattle.store_check.proofs.objects.check_group.Goals as goal

pub check_entries-requires-clause-before : goal.check_entries-requires-clause-before
check_entries-requires-clause-before g c = λ v told. (c.requires.before v (sym c.read_group.ensures.quiet.view ∙ told)).sound

pub check_entries-requires-clause-tested : goal.check_entries-requires-clause-tested
check_entries-requires-clause-tested g c = λ v told.
    let was = sym c.read_group.ensures.quiet.view ∙ told in
    subst (AreTested v.now c.args.limits.now.content c.args.names.now c.args.from) (sym c.deref.ensures.value) (tested v.now c.args.limits.now.content c.args.names.now c.args.from c.in-Ok.group.entries.items c.test_group-entries.result.items (c.in-Ok.ensures.told v was).read c.test_group-entries.ensures.len c.test_group-entries.ensures.each)

pub returns-in_ok-add_all-in-None-clause-next : goal.returns-in_ok-add_all-in-None-clause-next
returns-in_ok-add_all-in-None-clause-next g c = (
  omega (arith, c.in-Ok.ensures.some c.in-None.is, c.len.ensures, c.test_group-entries.ensures.len),
  omega (arith, c.in-Ok.ensures.within.whole, c.len.ensures, c.test_group-entries.ensures.len),
)

pub returns-in_ok-add_all-in-None-clause-told : goal.returns-in_ok-add_all-in-None-clause-told
returns-in_ok-add_all-in-None-clause-told g c = λ v told.
    let read = c.read_group.ensures.quiet.view ∙ told in
    let whole : length c.deref.result.now ≡ length c.test_group-entries.result.items = ap length c.deref.ensures.value in
    record {
      sound = sound_from v.now c.args.limits.now.content c.args.names.now (c.args.from + length c.deref.result.now) (c.args.from + c.len.result) (omega (arith, whole, c.len.ensures)) (c.in_ok-check_entries.ensures.told v read);
      theirs = c.in_ok-add_all-in-None.ensures v.now (c.requires.before v told).theirs
          (stored v.now c.args.limits.now.content c.args.names.now c.args.from c.in-Ok.group.entries.items c.test_group-entries.result.items (c.in-Ok.ensures.told v told).read c.test_group-entries.ensures.len c.test_group-entries.ensures.each);
    }

pub bounds-names-next : goal.bounds-names-next
bounds-names-next g c = omega (arith, c.in-Ok.ensures.within.stopped c.in-Some.fault c.in-Some.is, c.len.ensures, c.test_group-entries.ensures.len)

pub stopped-requires : goal.stopped-requires
stopped-requires g c = λ v told.
    let before = sym c.check_entries.ensures.quiet.view ∙ told in
    let was = sym c.read_group.ensures.quiet.view ∙ before in
    let place : c.args.from + c.len.result ≡ c.args.from + length c.in-Ok.group.entries.items = omega (arith, c.len.ensures, c.test_group-entries.ensures.len) in
    let x = c.index-names-next.result in
    stop_wrong v.now c.args.limits.now.content x c.in-Some.fault ((c.in-Ok.ensures.told v was).stopped c.in-Some.fault c.in-Some.is x (c.index-names-next.is ∙ ap (λ n. slice_index_or c.args.names.now n x) place))

pub returns-in-Some-clause-told : goal.returns-in-Some-clause-told
returns-in-Some-clause-told g c = λ v told.
    let read = c.read_group.ensures.quiet.view ∙ told in
    let inside : c.args.from + c.len.result < length c.args.names.now = omega (arith, c.in-Ok.ensures.within.stopped c.in-Some.fault c.in-Some.is, c.len.ensures, c.test_group-entries.ensures.len) in
    let whole : length c.deref.result.now ≡ length c.test_group-entries.result.items = ap length c.deref.ensures.value in
    let before = sound_from v.now c.args.limits.now.content c.args.names.now (c.args.from + length c.deref.result.now) (c.args.from + c.len.result) (omega (arith, whole, c.len.ensures)) (c.in_ok-check_entries.ensures.told v read) in
    stop_ends v.now c.args.limits.now.content c.args.names.now (c.requires.all v told) (c.args.from + c.len.result) c.index-names-next.result inside c.index-names-next.is before c.in-Some.fault c.stopped.result (c.stopped.ensures.told v (c.check_entries.ensures.quiet.view ∙ read))
