use Rattle.std.proofs.Common.{◌+◌, ◌↔◌, List, length, sym, ap, subst, arith, Contains}
use Rattle.std.specs.List.{flat_map}
use Rattle.std.specs.List.Sorted.{IsStrictlySortedBy}
use Rattle.ost_types.specs.Path.{Path, path_cmp}
use Rattle.memory_record.specs.Changes.{view_of}
use Rattle.memory_record.specs.Traces.{named_by}
use Rattle.memory_record.proofs.Leaving.{HasLeft, start, go_on, is_crash, is_sound, ended}
use Rattle.memory_record.proofs.crash.crashed.Goals as goal

pub loop-path-init : goal.loop-path-init
loop-path-init c =
    let ps = c.deref-path-items.ensures.value in
    let sorted = subst (IsStrictlySortedBy path_cmp) (sym ps) c.in_ok-paths.ensures.ascending in
    let each = subst (λ (l : List Path). (p : Path) → Contains l p ↔ Contains (flat_map named_by c.args.changes.now) p) (sym ps) c.in_ok-paths.ensures.each in
    let same = c.in_ok-left.ensures in
    record {
      so_far = subst (λ l. HasLeft c.args.changes.now c.args.choice.now.picks.items c.args.choice.now.fill c.deref-path-items.result.now 0 0 (view_of l)) (sym same) (start c.args.changes.now c.args.choice.now.picks.items c.args.choice.now.fill c.deref-path-items.result.now c.requires sorted each);
      long = let l = ap length same in omega (arith, l);
    }

pub leave-requires : goal.leave-requires
leave-requires c =
    let few = c.loop-path.invariant.so_far.few in
    let less = c.loop-path-test.true in
    let small = c.deref-path-items.type_inv.0 in
    omega (arith, few, less, small)

pub loop-path-preserved : goal.loop-path-preserved
loop-path-preserved c =
    let ps = c.deref-path-items.ensures.value in
    let sorted = subst (IsStrictlySortedBy path_cmp) (sym ps) c.in_ok-paths.ensures.ascending in
    let each = subst (λ (l : List Path). (p : Path) → Contains l p ↔ Contains (flat_map named_by c.args.changes.now) p) (sym ps) c.in_ok-paths.ensures.each in
    let on = go_on c.args.changes.now c.args.choice.now.picks.items c.args.choice.now.fill c.deref-path-items.result.now c.requires sorted each c.loop-path.path-index c.loop-path.names c.loop-path.left.changes.items c.leave.new.left.changes.items c.loop-path.invariant.so_far c.loop-path-test.true c.path-item.result c.path-item.is (λ f x is. (rw c.deref.ensures.value at c.in_ok-names.ensures.left) (view_of c.args.changes.now) f x c.in_ok-trail.ensures is) in
    record {
      so_far = subst (λ n. HasLeft c.args.changes.now c.args.choice.now.picks.items c.args.choice.now.fill c.deref-path-items.result.now (c.loop-path.path-index + 1) n (view_of c.leave.new.left.changes.items)) (sym (c.in_ok-names.ensures.count (view_of c.args.changes.now) c.in_ok-trail.ensures)) on.0;
      long = let l = c.loop-path.invariant.long in let m = on.1 in omega (arith, l, m);
    }

pub returns-clause-crash : goal.returns-clause-crash
returns-clause-crash c =
    let ps = c.deref-path-items.ensures.value in
    let sorted = subst (IsStrictlySortedBy path_cmp) (sym ps) c.in_ok-paths.ensures.ascending in
    let each = subst (λ (l : List Path). (p : Path) → Contains l p ↔ Contains (flat_map named_by c.args.changes.now) p) (sym ps) c.in_ok-paths.ensures.each in
    let all = ended c.args.changes.now c.args.choice.now.picks.items c.args.choice.now.fill c.deref-path-items.result.now c.loop-path.path-index c.loop-path.names (view_of c.loop-path.left.changes.items) c.loop-path.auto.path-index-end c.loop-path-test.false c.loop-path.invariant.so_far in
    rw c.in_ok-push.ensures.items (is_crash c.args.changes.now c.args.choice.now.picks.items c.args.choice.now.fill c.deref-path-items.result.now c.requires sorted each c.loop-path.left.changes.items c.loop-path.names all)

pub returns-clause-sound : goal.returns-clause-sound
returns-clause-sound c =
    let ps = c.deref-path-items.ensures.value in
    let sorted = subst (IsStrictlySortedBy path_cmp) (sym ps) c.in_ok-paths.ensures.ascending in
    let each = subst (λ (l : List Path). (p : Path) → Contains l p ↔ Contains (flat_map named_by c.args.changes.now) p) (sym ps) c.in_ok-paths.ensures.each in
    let all = ended c.args.changes.now c.args.choice.now.picks.items c.args.choice.now.fill c.deref-path-items.result.now c.loop-path.path-index c.loop-path.names (view_of c.loop-path.left.changes.items) c.loop-path.auto.path-index-end c.loop-path-test.false c.loop-path.invariant.so_far in
    rw c.in_ok-push.ensures.items (is_sound c.args.changes.now c.args.choice.now.picks.items c.args.choice.now.fill c.deref-path-items.result.now c.requires sorted each c.loop-path.left.changes.items c.loop-path.names all c.loop-path.invariant.long)
