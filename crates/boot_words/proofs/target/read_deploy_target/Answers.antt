use Rattle.std.proofs.Common.{◌≡◌, ◌↔◌, true, false, IfSome, IsSome, refl, sym, subst}
use Rattle.repo_layout.specs.OsName.{IsOsName}
use Rattle.boot_words.specs.Words.{LeadsTo}
use Rattle.boot_words.proofs.Words.{no_stateroot, no_target, target_there}
use Rattle.boot_words.proofs.target.read_deploy_target.Goals as goal

pub returns-in_default : goal.returns-in_default
returns-in_default c = no_target c.args.target.now c.in_default.ensures

pub returns-in-None : goal.returns-in-None
returns-in-None c =
    no_stateroot c.args.target.now c.in-Some.parts.os.now c.in-Some.parts.sum c.in-Some.parts.number c.in-Some.ensures
    (λ is. let n : false ≡ true = subst IsSome c.in-None.is (c.in_ok-name.ensures.exact.1 is) in cc)

pub returns-in-Some-name : goal.returns-in-Some-name
returns-in-Some-name c =
    let exact = subst (λ n. IsSome n ↔ IsOsName c.in-Some.parts.os.now) c.in-Some-name.is c.in_ok-name.ensures.exact in
    let value : c.in-Some-name.os ≡ c.in-Some.parts.os.now = subst (λ n. IfSome n (λ x. x ≡ c.in-Some.parts.os.now)) c.in-Some-name.is c.in_ok-name.ensures.value in
    subst (λ os. LeadsTo c.args.target.now (record { os = os; commit = c.in-Some.parts.sum; serial = c.in-Some.parts.number })) (sym value)
    (target_there c.args.target.now (record { os = c.in-Some.parts.os.now; commit = c.in-Some.parts.sum; serial = c.in-Some.parts.number }) c.in-Some.ensures (exact.0 refl))
