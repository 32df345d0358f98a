use Rattle.std.proofs.Common.{sym, subst}
use Rattle.rely_guarantee.specs.Disks.{Logical}
use Rattle.rely_guarantee.specs.State.{first}
use Rattle.sys_open_check.proofs.again.open_again.Goals as goal

pub returns-clause-good : goal.returns-clause-good
returns-clause-good g c = λ v told. (c.in_ok-opened.ensures.good v told).0

pub returns-clause-refs : goal.returns-clause-refs
returns-clause-refs g c = λ v told. subst (λ refs. Logical v.now (first refs)) (sym c.into_parts-parts.ensures.refs) (c.in_ok-opened.ensures.begins v told).2.same
