use Rattle.std.proofs.Common.{◌∷◌, ◌∙◌, ap}
use Rattle.std.proofs.lemmas.Result.{IfOk-weaker}
use Rattle.script_reader.proofs.Contents.{given_from}
use Rattle.script_reader.proofs.content.read_content.Goals as goal

pub returns-then-first-eq61 : goal.returns-then-first-eq61
returns-then-first-eq61 c =
    IfOk-weaker _ _ _ (λ o. given_from _ c.in-Some.text.now o (c.in-Some.ensures.cases.0 ∙ ap (λ b. b ∷ c.in-Some.text.now) c.if-first-eq61.true)) c.read_given.ensures
