use Rattle.std.proofs.Common.{◌+◌, refl, arith}
use Rattle.std.specs.Prelude.{Contains}
use Rattle.reach.specs.Reach.{Is}
use Rattle.prune_mark.proofs.Beginning.{all_roots, begins_as, begins_more, begins_none, resized, roots_all}
use Rattle.prune_mark.proofs.Spreading.{OfFirst, first_less, first_more, first_none}
use Rattle.prune_mark.proofs.roots.begin.Goals as goal

pub loop-root-init : goal.loop-root-init
loop-root-init c = record {
  begun = begins_none c.args.names.now (OfFirst Is c.args.roots.now 0) (first_none Is c.args.roots.now) _ _ _
      (resized _ _ _ _ _ c.in_ok-flags.ensures.items c.in_ok-flags.ensures.len refl c.in_ok-resize.ensures.items)
      c.in_ok-found.ensures.items
      c.in_ok-pending.ensures.items;
  found_room = omega (arith, c.in_ok-found.ensures.len, c.in_ok-found.ensures.capacity);
  pending_room = omega (arith, c.in_ok-pending.ensures.len, c.in_ok-pending.ensures.capacity);
}

pub mark_root-requires-clause-long : goal.mark_root-requires-clause-long
mark_root-requires-clause-long c = c.loop-root.invariant.begun.long

pub mark_root-requires-clause-found : goal.mark_root-requires-clause-found
mark_root-requires-clause-found c = omega (arith, c.loop-root.invariant.found_room, c.loop-root-test.true)

pub mark_root-requires-clause-pending : goal.mark_root-requires-clause-pending
mark_root-requires-clause-pending c = omega (arith, c.loop-root.invariant.pending_room, c.loop-root-test.true)

pub loop-root-preserved : goal.loop-root-preserved
loop-root-preserved c = record {
  begun =
      begins_as c.args.names.now _ (OfFirst Is c.args.roots.now (c.loop-root.root-index + 1)) _ _ _
      (first_more Is c.args.roots.now c.loop-root.root-index c.root-item.result c.loop-root-test.true c.root-item.is)
      (first_less Is c.args.roots.now c.loop-root.root-index c.root-item.result c.loop-root-test.true c.root-item.is)
      (begins_more c.args.names.now (OfFirst Is c.args.roots.now c.loop-root.root-index) c.root-item.result _ _ _ c.loop-root.invariant.begun _ _ _ c.mark_root.ensures.marks);
  found_room = omega (arith, c.loop-root.invariant.found_room, c.loop-root-test.true, c.mark_root.ensures.found.0, c.mark_root.ensures.found.1);
  pending_room = omega (arith, c.loop-root.invariant.pending_room, c.loop-root-test.true, c.mark_root.ensures.pending.0, c.mark_root.ensures.pending.1);
}

pub returns : goal.returns
returns c =
    begins_as c.args.names.now _ (Contains c.args.roots.now) _ _ _
    (roots_all c.args.roots.now c.loop-root.root-index)
    (all_roots c.args.roots.now c.loop-root.root-index (omega (arith, c.loop-root-test.false)))
    c.loop-root.invariant.begun
