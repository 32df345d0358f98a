use Rattle.std.proofs.Common.{subst}
use Rattle.std.proofs.lemmas.Result.{err_from_is_err_and}
use Rattle.sys_open.specs.Damages.{Deployments}
use Rattle.sys_open.specs.Judged.{ComesFirst, IsBrokenAs, IsFit, IsLeastOf, IsUnbroken, IsUnfitAs, StandsFirst}
use Rattle.sys_open.proofs.Booting.{broken_told, interrupted_told, none_told, selects_some, unfit_told}
use Rattle.sys_open.proofs.deployments.tell.Goals as goal

pub returns-in_err-at-in-Some-clause-told : goal.returns-in_err-at-in-Some-clause-told
returns-in_err-at-in-Some-clause-told g c = λ v limits rows told are faults.
    let error = err_from_is_err_and c.from_residual.result c.from_residual.ensures.1 in
    let unfit = subst (IsLeastOf (IsUnfitAs limits v.now) ComesFirst (IsFit limits v.now) rows) c.in-Some.is faults.unfit in
    let selected = selects_some v.now rows unfit.0.0 unfit.0.1 are in
    rw (error.1, error.2) (interrupted_told (Unit {0}) Deployments limits v.now _ (c.in_err-at-in-Some.ensures.told v selected.0 told selected.1))

pub returns-in-Some-clause-told : goal.returns-in-Some-clause-told
returns-in-Some-clause-told g c = λ v limits rows told are faults.
    let unfit = subst (IsLeastOf (IsUnfitAs limits v.now) ComesFirst (IsFit limits v.now) rows) c.in-Some.is faults.unfit in
    unfit_told limits v.now rows are (Unit {0}) c.in-Some.file c.in_ok-at-in-Some.at unfit (λ loader selects. c.in_ok-at-in-Some.ensures.told v loader told selects)

pub returns-in-Some-broken-clause-told : goal.returns-in-Some-broken-clause-told
returns-in-Some-broken-clause-told g c = λ v limits rows told are faults.
    let fit = subst (IsLeastOf (IsUnfitAs limits v.now) ComesFirst (IsFit limits v.now) rows) c.in-None.is faults.unfit in
    let broken = subst (IsLeastOf (IsBrokenAs limits v.now) StandsFirst (IsUnbroken limits v.now) rows) c.in-Some-broken.is faults.broken in
    broken_told limits v.now rows are fit (Unit {0}) c.in-Some-broken.field-0 broken

pub returns-clause-told : goal.returns-clause-told
returns-clause-told g c = λ v limits rows told are faults.
    let fit = subst (IsLeastOf (IsUnfitAs limits v.now) ComesFirst (IsFit limits v.now) rows) c.in-None.is faults.unfit in
    let broken = subst (IsLeastOf (IsBrokenAs limits v.now) StandsFirst (IsUnbroken limits v.now) rows) c.in-None-broken.is faults.broken in
    none_told limits v.now rows are fit broken
