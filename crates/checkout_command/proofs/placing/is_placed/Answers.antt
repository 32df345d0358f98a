use Rattle.checkout_command.proofs.Placed.{fits_more, placed_is, placed_not}
use Rattle.checkout_command.proofs.placing.is_placed.Goals as goal

pub loop-path-preserved : goal.loop-path-preserved
loop-path-preserved c =
    fits_more c.args.into.now c.args.tree.now c.as_slice-path-items.result.now c.loop-path.path-index c.loop-path-item.result c.loop-path-test.true c.loop-path-item.is c.loop-path.invariant
    (c.fits.ensures.0 c.if-not-fits.false)

pub returns-then-not-fits : goal.returns-then-not-fits
returns-then-not-fits c =
    placed_not c.args.into.now c.args.tree.now c.as_slice-path-items.result.now c.loop-path.path-index c.loop-path-item.result c.fits.result c.as_slice-path-items.ensures.value c.as_slice-path-items.ensures.map c.loop-path-test.true c.loop-path-item.is
    c.fits.ensures c.if-not-fits.true

pub returns : goal.returns
returns c =
    placed_is c.args.into.now c.args.tree.now c.as_slice-path-items.result.now c.loop-path.path-index c.as_slice-path-items.ensures.value c.loop-path-test.false
    (c.has_folder.ensures.0 c.if-not-has_folder.false) c.loop-path.invariant
