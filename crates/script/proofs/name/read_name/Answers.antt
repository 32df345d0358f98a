use Rattle.std.proofs.Common.{MatchOption, subst, sym}
use Rattle.script.specs.Field.{IsField, IsNoField}
use Rattle.script.proofs.Fields.{both_ok, name_from}
use Rattle.script.proofs.name.read_name.Goals as goal

pub returns-in-Some : goal.returns-in-Some
returns-in-Some c =
    let field = subst (λ o. MatchOption o (IsNoField c.args.field.now) (IsField c.args.field.now)) c.in-Some.is c.in_ok-text.ensures in
    both_ok _ _ _ _ (λ o exact value. name_from c.args.field.now c.as_slice.result.now o (subst (IsField c.args.field.now) (sym c.as_slice.ensures) field) exact value) c.parse.ensures.exact c.parse.ensures.value

pub returns-in-None : goal.returns-in-None
returns-in-None c =
    let none = subst (λ o. MatchOption o (IsNoField c.args.field.now) (IsField c.args.field.now)) c.in-None.is c.in_ok-text.ensures in
    λ name x. none name x.spelled
