use Rattle.checkout_compare.proofs.Checkouts.{is_deployed_outside_etc, nothing_wrong, strict_deployed, told_once}
use Rattle.checkout_compare.proofs.laws.differences_are_told_once.Goals as goal

pub returns-clause-once : goal.returns-clause-once
returns-clause-once c = told_once

pub returns-clause-checkout : goal.returns-clause-checkout
returns-clause-checkout c = is_deployed_outside_etc

pub returns-clause-strict : goal.returns-clause-strict
returns-clause-strict c = strict_deployed

pub returns-clause-none : goal.returns-clause-none
returns-clause-none c = nothing_wrong
