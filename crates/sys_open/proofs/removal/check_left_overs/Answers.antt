use Rattle.std.proofs.Common.{[], ◌∙◌, sym, subst}
use Rattle.std.proofs.lemmas.Result.{err_from_is_err_and}
use Rattle.std.specs.Global.{Vec}
use Rattle.ost_types.specs.Path.{Path}
use Rattle.durable_list.specs.Standing.{ids_of}
use Rattle.sys_open.specs.declared.fault.Why.TheVariants.{WrongKind}
use Rattle.sys_open.specs.Damages.{Clearable}
use Rattle.sys_open.specs.LeftOver.{AreLeftOvers, AreStaying}
use Rattle.sys_open.proofs.FaultLemmas.{interrupted_walk}
use Rattle.sys_open.proofs.Holding.{still_walked}
use Rattle.sys_open.proofs.removal.check_left_overs.Goals as goal

pub returns-in_err-left_overs-clause-told : goal.returns-in_err-left_overs-clause-told
returns-in_err-left_overs-clause-told g c = λ v limits told are whole.
    let error = err_from_is_err_and c.from_residual.result c.from_residual.ensures.1 in
    rw (error.1, error.2) (interrupted_walk (Vec Path) (Clearable v.now) WrongKind [] _ (c.in_err-left_overs.ensures.told v told are))

pub returns-in_err-staying-clause-told : goal.returns-in_err-staying-clause-told
returns-in_err-staying-clause-told g c = λ v limits told are whole.
    let error = err_from_is_err_and c.from_residual-in_err-staying.result c.from_residual-in_err-staying.ensures.1 in
    rw (error.1, error.2) (interrupted_walk (Vec Path) (Clearable v.now) WrongKind [] _ (c.in_err-staying.ensures.told v (c.left_overs.ensures.quiet.view ∙ told)))

pub returns-in_err-check_removal-clause-told : goal.returns-in_err-check_removal-clause-told
returns-in_err-check_removal-clause-told g c = λ v limits told are whole.
    let error = err_from_is_err_and c.from_residual-in_err-check_removal.result c.from_residual-in_err-check_removal.ensures.1 in
    let gathered = c.left_overs.ensures.quiet.view ∙ told in
    let left = subst (AreLeftOvers v.now) (sym c.as_slice.ensures.value) (c.in_ok-left_overs.ensures.told v told are) in
    let stays = subst (AreStaying v.now (ids_of c.args.rows.now)) (sym c.as_slice-2.ensures.value) (c.in_ok-staying.ensures.told v gathered) in
    rw (error.1, error.2) (still_walked (Unit {0}) (Vec Path) (Clearable v.now) WrongKind [] _ (c.in_err-check_removal.ensures.told v limits c.args.rows.now (c.staying.ensures.quiet.view ∙ gathered) are whole left stays))

pub returns-clause-told : goal.returns-clause-told
returns-clause-told g c = λ v limits told are whole.
    let gathered = c.left_overs.ensures.quiet.view ∙ told in
    let left = subst (AreLeftOvers v.now) (sym c.as_slice.ensures.value) (c.in_ok-left_overs.ensures.told v told are) in
    let stays = subst (AreStaying v.now (ids_of c.args.rows.now)) (sym c.as_slice-2.ensures.value) (c.in_ok-staying.ensures.told v gathered) in
    c.in_ok-check_removal.ensures.told v limits c.args.rows.now (c.staying.ensures.quiet.view ∙ gathered) are whole left stays
