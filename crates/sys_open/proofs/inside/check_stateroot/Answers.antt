use Rattle.std.proofs.Common.{◌∙◌, subst}
use Rattle.std.proofs.lemmas.Result.{err_from_is_err_and}
use Rattle.ost_types.specs.Path.{Path}
use Rattle.sys_open.specs.declared.fault.Why.TheVariants.{WrongKind}
use Rattle.layout_rules.specs.declared.rule.Rule.TheVariants.{FolderOrNothing}
use Rattle.layout_rules.specs.Checks.{Suits}
use Rattle.sys_open.specs.Walk.{Looked}
use Rattle.sys_open.proofs.ManyWalks.{stateroot_err, stateroot_walk_at}
use Rattle.sys_open.proofs.inside.check_stateroot.Goals as goal

pub returns-in_err-check_rule-clause-told : goal.returns-in_err-check_rule-clause-told
returns-in_err-check_rule-clause-told g c = λ v told.
    let error = err_from_is_err_and c.from_residual.result c.from_residual.ensures.1 in
    rw (error.1, error.2) (stateroot_err v.now c.requires.0 c.requires.2 c.args.at.now c.requires.3 (Unit {0}) (Unit {0}) _ (c.in_err-check_rule.ensures.told v told))

pub returns-clause-told : goal.returns-clause-told
returns-clause-told g c = λ v told.
    stateroot_walk_at v.now c.requires.0 c.requires.2 c.args.at.now c.requires.3 (Unit {0}) c.check_rule-2.result (c.in_ok-check_rule.ensures.told v told)
    (subst (λ (p : Path). Looked {T = Unit {0}} (Suits FolderOrNothing (v.now.at p)) WrongKind p c.check_rule-2.result) c.in_ok-deployments.ensures (c.check_rule-2.ensures.told v (c.check_rule.ensures.quiet.view ∙ told)))
