use Rattle.std.proofs.Common.{MatchOption, sym, subst}
use Rattle.script.specs.Field.{IsField, IsNoField}
use Rattle.script.proofs.Fields.{sum_from, no_sum}
use Rattle.script.proofs.value.read_commit.Goals as goal

pub returns-in-Some : goal.returns-in-Some
returns-in-Some c =
    let field = subst (λ o. MatchOption o (IsNoField c.args.field.now) (IsField c.args.field.now)) c.in-Some.is c.in_ok-value.ensures in
    let there = subst (IsField c.args.field.now) (sym c.as_slice.ensures) field in
    sum_from c.args.field.now c.as_slice.result.now c.read_sum.result there c.read_sum.ensures.value c.read_sum.ensures.whole c.read_sum.ensures.back

pub returns-in-None : goal.returns-in-None
returns-in-None c = no_sum _ (subst (λ o. MatchOption o (IsNoField c.args.field.now) (IsField c.args.field.now)) c.in-None.is c.in_ok-value.ensures)
