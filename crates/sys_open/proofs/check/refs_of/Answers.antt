use Rattle.std.proofs.Common.{subst, List, ℕ, Err}
use Rattle.std.proofs.lemmas.Result.{err_from_is_err_and}
use Rattle.std.specs.Global.{Vec}
use Rattle.layout_rules.specs.Checks.{HoldsRefs}
use Rattle.repo_layout.specs.Paths.{heads}
use Rattle.sys_open.specs.declared.fault.Why.TheVariants.{BadRef}
use Rattle.sys_open.specs.Gathered.{HasAllBelow}
use Rattle.sys_open.specs.Walk.{IsSoBelow, Walked}
use Rattle.sys_open.proofs.Checking.{refs_say, none_of}
use Rattle.sys_open.proofs.Holding.{still_walked}
use Rattle.sys_open.proofs.check.refs_of.Goals as goal

pub returns-in_err-read_refs-clause-told : goal.returns-in_err-read_refs-clause-told
returns-in_err-read_refs-clause-told g c = λ v told.
    let error = err_from_is_err_and c.from_residual-in_err-read_refs.result c.from_residual-in_err-read_refs.ensures.1 in
    rw (error.1, error.2) (still_walked (Unit {0}) (Vec (List ℕ × List ℕ)) (HoldsRefs v.now) BadRef heads _ (subst (λ p. Walked {T = Unit {0}} (HoldsRefs v.now) BadRef p (Err c.in_err-read_refs.field-0.0)) c.in_ok-heads.ensures (c.in_err-read_refs.ensures.told v told)))

pub returns-clause-told : goal.returns-clause-told
returns-clause-told g c = λ v told. subst (λ p. IsSoBelow (HoldsRefs v.now) p) c.in_ok-heads.ensures (c.in_ok-read_refs.ensures.told v told)

pub returns-clause-refs : goal.returns-clause-refs
returns-clause-refs g c = λ v told.
    refs_say v.now c.read_refs.new.found.refs c.in_ok-into_vec.field-0.items c.in_ok-into_vec.ensures.items
    (c.in_ok-read_refs.ensures.right v told (none_of v.now c.new-found.result.refs c.new-found.ensures))
    (subst (λ p. HasAllBelow v.now p c.read_refs.new.found.refs) c.in_ok-heads.ensures (c.in_ok-read_refs.ensures.whole v told))
