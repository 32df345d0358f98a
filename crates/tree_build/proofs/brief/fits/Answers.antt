use Rattle.std.proofs.Common.{arith}
use Rattle.tree_build.proofs.Rooms.{size_more, typed_take, texts_take}
use Rattle.tree_build.proofs.brief.fits.Goals as goal

pub loop-item-preserved : goal.loop-item-preserved
loop-item-preserved c =
    let items = c.args.items.now in
    let n = c.loop-item.item-index in
    let i = c.item-item.result in
    let less = c.loop-item-test.true in
    let is = c.item-item.is in
    let so_far = c.loop-item.invariant in
    let it = c.in-Some.ensures in
    record {
      room = let m = size_more items n i less is in let r = so_far.room in let l = it.left in omega (arith, m, r, l);
      typed = typed_take items n i less is it.names it.numbers so_far.typed;
      texts = texts_take items n i less is it.text so_far.texts;
    }
