use Rattle.std.proofs.Common.{true, false, sym, ◌∙◌, arith, ◌≡◌}
use Rattle.tree_build.proofs.Orderly.{items_none, items_more, item_of, before_of}
use Rattle.tree_build.proofs.order.are_items.Goals as goal
use Rattle.tree_build.proofs.order.are_items.Goals.{then-not-is_item-via-then-not-is_item, then-not-is_item-via-else-not-is_item+then-not-is_before}

pub loop-at-init : goal.loop-at-init
loop-at-init c = record { within = omega arith; behind = items_none c.args.items.now _ (omega arith) }

pub loop-at-preserved : goal.loop-at-preserved
loop-at-preserved c = record {
  within = let w = c.loop-at.invariant.within in omega (arith, w);
  behind = items_more c.args.items.now c.loop-at.at c.index-items-at.result c.loop-at-test.true c.loop-at.invariant.within c.index-items-at.is (c.is_item.ensures.0 c.if-not-is_item.false) (c.is_before.ensures.0 c.if-not-is_before.false) c.loop-at.invariant.behind;
}

pub returns-then-not-is_item : goal.returns-then-not-is_item
returns-then-not-is_item c =
    let some = c.loop-at-test.true in
    let within = c.loop-at.invariant.within in (
      λ t. let n : false ≡ true = t in cc,
      λ h. elim c.then-not-is_item.branch [
        | then-not-is_item-via-then-not-is_item w ↦
            let n : true ≡ false = sym (c.is_item.ensures.1 (item_of c.args.items.now _ c.index-items-at.result (omega (arith, some, within)) c.index-items-at.is h)) ∙ w.if-not-is_item.true in cc
        | then-not-is_item-via-else-not-is_item+then-not-is_before w ↦
            let n : true ≡ false = sym (w.is_before.ensures.1 (before_of c.args.items.now _ h)) ∙ w.if-not-is_before.true in cc
      ],
    )
