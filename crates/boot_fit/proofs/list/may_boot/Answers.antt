use Rattle.std.proofs.Common.{◌≡◌, true, false, sym, ◌∙◌, refl, length, arith}
use Rattle.boot_fit.proofs.Fits.{fit_all, fit_more, fit_none, fits_in}
use Rattle.boot_fit.proofs.list.may_boot.Goals as goal

pub loop-at-init : goal.loop-at-init
loop-at-init c = record {
  within = omega arith;
  few = c.if-at-gt8.false;
  behind = fit_none c.args.items.now (length c.args.items.now) (omega arith);
}

pub loop-at-preserved : goal.loop-at-preserved
loop-at-preserved c = record {
  within = omega (arith, c.loop-at.invariant.within);
  few = c.loop-at.invariant.few;
  behind = fit_more c.args.items.now c.loop-at.at c.loop-at-test.true (c.fits_at.ensures.0 c.if-not-fits_at.false) c.loop-at.invariant.behind;
}

pub returns-then-not-fits_at : goal.returns-then-not-fits_at
returns-then-not-fits_at c =
    let some = c.loop-at-test.true in
    let within = c.loop-at.invariant.within in (
      λ t. let n : false ≡ true = t in cc,
      λ are. let n : true ≡ false = sym (c.fits_at.ensures.1 (fits_in c.args.items.now _ are (omega (arith, some, within)))) ∙ c.if-not-fits_at.true in cc,
    )

pub returns : goal.returns
returns c = (λ t. fit_all c.args.items.now c.loop-at.at c.loop-at.invariant.few (omega (arith, c.loop-at-test.false)) c.loop-at.invariant.behind, λ are. refl)
