use Rattle.std.proofs.lemmas.Result.{IfOk-weaker}
use Rattle.script.proofs.FieldValues.{refused_path}
use Rattle.script.proofs.path.parse_path.Goals as goal

pub returns-in-Err : goal.returns-in-Err
returns-in-Err c = IfOk-weaker _ _ _ (λ o. refused_path _ _ c.in-Err.ensures o) c.refused.ensures
