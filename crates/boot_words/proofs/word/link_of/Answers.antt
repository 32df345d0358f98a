use Rattle.std.proofs.Common.{◌≡◌, ◌↔◌, true, false, IfSome, IsSome, refl, sym, subst}
use Rattle.repo_layout.specs.Fixed.{number}
use Rattle.repo_layout.specs.OsName.{IsOsName}
use Rattle.boot_words.specs.Words.{NamesLink}
use Rattle.boot_words.proofs.Words.{link_there, no_name, no_parts}
use Rattle.boot_words.proofs.word.link_of.Goals as goal

pub returns-in_default : goal.returns-in_default
returns-in_default c = no_parts c.args.text.now c.named_version.result.now (number c.args.version) c.named_version.ensures c.in_default.ensures

pub returns-in-None : goal.returns-in-None
returns-in-None c =
    no_name c.args.text.now c.named_version.result.now (number c.args.version) c.in-Some.parts.os.now c.in-Some.parts.sum c.in-Some.parts.number c.named_version.ensures c.in-Some.ensures
    (λ is. let n : false ≡ true = subst IsSome c.in-None.is (c.in_ok-name.ensures.exact.1 is) in cc)

pub returns-in-Some-name : goal.returns-in-Some-name
returns-in-Some-name c =
    let exact = subst (λ n. IsSome n ↔ IsOsName c.in-Some.parts.os.now) c.in-Some-name.is c.in_ok-name.ensures.exact in
    let value : c.in-Some-name.os ≡ c.in-Some.parts.os.now = subst (λ n. IfSome n (λ x. x ≡ c.in-Some.parts.os.now)) c.in-Some-name.is c.in_ok-name.ensures.value in
    subst (λ os. NamesLink c.args.text.now (number c.args.version) os c.in-Some.parts.sum c.in-Some.parts.number) (sym value)
    (link_there c.args.text.now c.named_version.result.now c.args.version c.in-Some.parts.os.now c.in-Some.parts.sum c.in-Some.parts.number c.named_version.ensures c.in-Some.ensures (exact.0 refl))
