use Rattle.std.proofs.Common.{◌^◌, ℕ, MatchOption, subst}
use Rattle.script.specs.Field.{IsNumber}
use Rattle.script.proofs.Numbers.{small_from}
use Rattle.script.proofs.number.read_u32.Goals as goal

pub returns-in-Some : goal.returns-in-Some
returns-in-Some c =
    let number = subst (λ o. MatchOption o ((n : ℕ) → ¬ (IsNumber (2 ^ 64) c.args.field.now n)) (IsNumber (2 ^ 64) c.args.field.now)) c.in-Some.is c.in_ok-number.ensures in
    small_from _ _ _ _ number c.try_from.ensures c.ok.ensures.value
