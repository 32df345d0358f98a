-- What a command was asked.
use Rattle.std.specs.Prelude.{ℕ, List, Option, Some, None}
use Rattle.ost_types.specs.declared.limits.Limits.{Limits}
use Rattle.fs_trait.specs.View.{Disk}
use Rattle.read_command.specs.declared.answer.ReadAnswer.{ReadAnswer}
use Rattle.read_command.specs.declared.command.ReadCommand.{ReadCommand}
use Rattle.read_command.specs.declared.command.ReadCommand.TheVariants.{Look, Cat, Ls, Log, Ended}
use Rattle.read_command.specs.declared.look.Ask.{Ask}
use Rattle.read_command.specs.declared.look.Ask.TheVariants as ask
use Rattle.read_command.specs.Answers.{Says}

pub record Asked : Type 0 where
  pub limits : Limits
  pub commit : List ℕ
  pub ask : Ask

-- until it has an answer
abbrev pub asked : ReadCommand → Option Asked
asked (Look l) = Some (record { limits = l.limits; commit = l.commit; ask = l.ask })
asked (Cat c) = Some (record { limits = c.limits; commit = c.commit; ask = ask.Cat c.path })
asked (Ls s) = Some (record { limits = s.task.limits; commit = s.task.commit; ask = ask.Ls s.path })
asked (Log g) = Some (record { limits = g.limits; commit = g.commit; ask = ask.Log })
asked (Ended a) = None

-- what the answer of a command that was asked this says
abbrev pub Answers : Disk → Option Asked → ReadAnswer → Type 0
Answers d None a = ⊥
Answers d (Some q) a = Says d q.limits q.commit q.ask a
