-- What is known of the commit that a command reads, whoever acts meanwhile.
use Rattle.std.specs.Prelude.{Option, Some, None}
use Rattle.fs_trait.specs.View.{View}
use Rattle.fs_trait.specs.Seen.{shows}
use Rattle.repo_layout.specs.Paths.{mark_path}
use Rattle.repo_layout.specs.RefFile.{IsSum}
use Rattle.layout_rules.specs.InLayout.{IsSuited}
use Rattle.rely_guarantee.specs.Lasting.{IsFinishedNow}
use Rattle.read_command.specs.declared.answer.ReadAnswer.{ReadAnswer}
use Rattle.read_command.specs.declared.answer.ReadAnswer.TheVariants as answer
use Rattle.read_command.specs.declared.command.ReadCommand.{ReadCommand}
use Rattle.read_command.specs.declared.command.ReadCommand.TheVariants.{Look}
use Rattle.read_command.specs.Asked.{Asked, asked}

-- its object is there, and no mark of it
abbrev pub IsFinishedOf : Option Asked → View → Type 0
IsFinishedOf None v = Unit {0}
IsFinishedOf (Some q) v = IsFinishedNow v q.commit

-- before the look, that nothing but a mark stands where one may; behind it, that the commit is finished
abbrev pub IsFounded : ReadCommand → View → Type 0
IsFounded (Look l) v = IsSum l.commit × IsSuited (mark_path l.commit) (shows v.now (mark_path l.commit))
IsFounded t v = IsFinishedOf (asked t) v

-- each answer but that the commit isn't there, or has a mark
abbrev pub IsRead : ReadAnswer → Type 0
IsRead (answer.NoCommit c) = ⊥
IsRead (answer.Partial c) = ⊥
IsRead a = Unit {0}
