use Rattle.std.proofs.Common.{◌≡◌, ◌+◌, take}
use Rattle.std.specs.Prelude.{All}
use Rattle.tree_build.specs.Items.{AreTyped}
use Rattle.tree_build.specs.Brief.{HasText, text_limit, tree_size}
use Rattle.tree_build.proofs.brief.fits.Given as goal

abbrev pub invariant-loop-item : goal.invariant-loop-item
invariant-loop-item l = record {
  room : text_limit ≡ tree_size (take l.item-index l.items) + l.room;
  typed : AreTyped (take l.item-index l.items);
  texts : All (λ i. HasText i.body) (take l.item-index l.items);
}
