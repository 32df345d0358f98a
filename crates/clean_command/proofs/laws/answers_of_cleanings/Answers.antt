use Rattle.clean_command.proofs.Ends.{cleaned_of}
use Rattle.clean_command.proofs.laws.answers_of_cleanings.Goals as goal

pub returns : goal.returns
returns c = λ lane t new v w b f leaves. cleaned_of lane t new v w b f leaves
