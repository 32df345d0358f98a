use Rattle.std.proofs.Common.{MatchOption, subst, sym}
use Rattle.script.specs.Field.{IsField, IsNoField}
use Rattle.script.proofs.Numbers.{number_from}
use Rattle.script.proofs.number.read_u64.Goals as goal

pub returns-in-Some : goal.returns-in-Some
returns-in-Some c =
    let field = subst (λ o. MatchOption o (IsNoField c.args.field.now) (IsField c.args.field.now)) c.in-Some.is c.in_ok-digits.ensures in
    number_from c.args.field.now c.as_slice.result.now c.number_of.result (subst (IsField c.args.field.now) (sym c.as_slice.ensures) field) c.number_of.ensures.small c.number_of.ensures.value

pub returns-in-None : goal.returns-in-None
returns-in-None c =
    let none = subst (λ o. MatchOption o (IsNoField c.args.field.now) (IsField c.args.field.now)) c.in-None.is c.in_ok-digits.ensures in
    λ n x. none _ x.spelled
