-- What is known of the commit that is checked out, whoever acts meanwhile.
use Rattle.std.specs.Prelude.{Option, Some, None}
use Rattle.fs_trait.specs.View.{View}
use Rattle.fs_trait.specs.Seen.{shows}
use Rattle.repo_layout.specs.Paths.{mark_path}
use Rattle.repo_layout.specs.RefFile.{IsSum}
use Rattle.layout_rules.specs.InLayout.{IsSuited}
use Rattle.rely_guarantee.specs.Lasting.{IsFinishedNow}
use Rattle.checkout_command.specs.declared.answer.CheckoutAnswer.{CheckoutAnswer}
use Rattle.checkout_command.specs.declared.answer.CheckoutAnswer.TheVariants as answer
use Rattle.checkout_command.specs.declared.command.CheckoutCommand.{CheckoutCommand}
use Rattle.checkout_command.specs.declared.command.CheckoutCommand.TheVariants.{Look}
use Rattle.checkout_command.specs.Asked.{Asked, asked}

-- its object is there, and no mark of it
abbrev pub IsFinishedOf : Option Asked → View → Type 0
IsFinishedOf None v = Unit {0}
IsFinishedOf (Some q) v = IsFinishedNow v q.commit

-- before the look, that nothing but a mark stands where one may; behind it, that the commit is finished
abbrev pub IsFounded : CheckoutCommand → View → Type 0
IsFounded (Look r) v = IsSum r.commit × IsSuited (mark_path r.commit) (shows v.now (mark_path r.commit))
IsFounded t v = IsFinishedOf (asked t) v

-- each answer but that the commit isn't there, or has a mark
abbrev pub IsOfFinished : CheckoutAnswer → Type 0
IsOfFinished (answer.NoCommit c) = ⊥
IsOfFinished (answer.Partial c) = ⊥
IsOfFinished a = Unit {0}
