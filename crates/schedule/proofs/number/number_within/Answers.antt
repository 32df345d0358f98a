use Rattle.schedule.proofs.Numbers.{outside}
use Rattle.schedule.proofs.number.number_within.Goals as goal

pub returns-else-is_within : goal.returns-else-is_within
returns-else-is_within c =
    outside c.args.digits.now c.in_ok-number.number c.args.least c.args.most c.in_ok-number.ensures.value c.in_ok-number.ensures.small c.ranges.most.fits
    (λ within. let t = c.is_within.ensures.1 within in cc)
