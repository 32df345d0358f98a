use Rattle.store_check.proofs.Remembering.{one_finished}
use Rattle.store_check.proofs.finished.is_known_finished.Goals as goal

pub returns-in_ok-remember-clause-known : goal.returns-in_ok-remember-clause-known
returns-in_ok-remember-clause-known g c = λ v told. one_finished v.now c.args.known.now c.remember.new.known c.args.commit.now c.in_ok-remember.ensures (c.requires.known v told) ((c.in_ok-is_finished.ensures.told v told).0 c.if-branch.true)
