use Rattle.std.proofs.Common.{◌≡◌, true, false, sym, ◌∙◌, ap, subst}
use Rattle.std.specs.Prelude.{is_some}
use Rattle.repo_layout.specs.OsName.{IsOsName}
use Rattle.deploy_clean.specs.Unlisted.{IsUnlisted}
use Rattle.sys_open.specs.LeftOver.{IsThere, IsUnlistedIn}
use Rattle.sys_open.proofs.Gathering.{no_stateroot, none_gathered}
use Rattle.sys_open.proofs.unlisted.add_stateroot.Goals as goal

pub returns-in-None-clause-told : goal.returns-in-None-clause-told
returns-in-None-clause-told g c = λ v told.
    let listed = c.args.listed.now in
    let name = c.args.name.now in
    none_gathered (IsUnlisted listed) (IsThere (IsUnlistedIn listed name) v.now) _
    (λ q is. let n : false ≡ true = sym (ap is_some c.in-None.is) ∙ c.in_ok-stateroot.ensures.exact.1 (subst IsOsName (sym c.as_slice.ensures.value) (no_stateroot listed name q is.0)) in cc)
