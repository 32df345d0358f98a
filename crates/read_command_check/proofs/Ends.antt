-- How a command begins that nobody interrupts, and what it answers at its end.
use Rattle.std.proofs.Common.{◌≡◌, Option, Some, MatchOption, sym, ◌∙◌, ap, subst}
use Rattle.fs_trait.specs.View.{Disk}
use Rattle.repo_model.specs.Objects.{Stores}
use Rattle.read_command.specs.declared.answer.ReadAnswer.{ReadAnswer}
use Rattle.read_command.specs.declared.command.ReadCommand.{ReadCommand}
use Rattle.read_command.specs.declared.command.ReadCommand.TheVariants.{Look, Cat, Ls, Log, Ended}
use Rattle.read_command.specs.Asked.{Answers, asked}
use Rattle.read_command.specs.Commands.{IsNew, Knows, Tells, answer_of}
use Rattle.read_command.proofs.Ends.{answers_by}

pub new_knows : (d : Disk) (t : ReadCommand) → IsNew t → Knows (Stores d) t
new_knows d (Look l) new = tt
new_knows d (Cat c) new = absurd new
new_knows d (Ls s) new = absurd new
new_knows d (Log g) new = absurd new
new_knows d (Ended a) new = absurd new

pub ended : (d : Disk) (t new : ReadCommand) (o : Option ReadAnswer) (a : ReadAnswer) → o ≡ answer_of new → new ≡ Ended a → Tells t d a → MatchOption o ⊥ (λ a. Answers d (asked t) a)
ended d t new o a is end tells = subst (λ x. MatchOption x ⊥ (λ a. Answers d (asked t) a)) (sym (is ∙ ap answer_of end)) (answers_by t d a tells)
