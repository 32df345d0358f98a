use Rattle.std.proofs.Common.{◌∷◌, ◌∙◌, ap}
use Rattle.script_reader.proofs.Contents.{value_from}
use Rattle.script_reader.proofs.content.value_of.Goals as goal

pub returns-then-first-eq58-clause-value : goal.returns-then-first-eq58-clause-value
returns-then-first-eq58-clause-value c =
    value_from _ c.in-Some.digits.now _ (c.in-Some.ensures.cases.0 ∙ ap (λ b. b ∷ c.in-Some.digits.now) c.if-first-eq58.true) c.byte_of.ensures.some c.byte_of.ensures.none
