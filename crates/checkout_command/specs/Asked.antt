-- What a command was asked.
use Rattle.std.specs.Prelude.{◌≡◌, ℕ, List, Option, Some, None}
use Rattle.ost_types.specs.declared.limits.Limits.{Limits}
use Rattle.ost_types.specs.Path.{Name}
use Rattle.fs_trait.specs.View.{Disk}
use Rattle.tree_walk.specs.Standing.{AreRight}
use Rattle.checkout_command.specs.declared.answer.CheckoutAnswer.{CheckoutAnswer}
use Rattle.checkout_command.specs.declared.answer.CheckoutAnswer.TheVariants as answer
use Rattle.checkout_command.specs.declared.command.CheckoutCommand.{CheckoutCommand}
use Rattle.checkout_command.specs.declared.command.CheckoutCommand.TheVariants.{Look, Read, Make, Ended}
use Rattle.checkout_command.specs.declared.request.Request.{Request}
use Rattle.checkout_command.specs.Answers.{Says}

pub record Asked : Type 0 where
  pub limits : Limits
  pub commit : List ℕ
  pub name : Name

abbrev pub asked_by : Request → Asked
asked_by r = record { limits = r.limits; commit = r.commit; name = r.name }

-- until it has an answer
abbrev pub asked : CheckoutCommand → Option Asked
asked (Look r) = Some (asked_by r)
asked (Read s) = Some (asked_by s.request)
asked (Make m) = Some (asked_by m.request)
asked (Ended a) = None

-- it was asked for a checkout of this name
abbrev pub HasName : Name → Option Asked → Type 0
HasName name None = ⊥
HasName name (Some q) = q.name ≡ name

-- it says that the commit is whole, or what of it is not
abbrev pub IsOfFiles : CheckoutAnswer → Type 0
IsOfFiles answer.Done = Unit {0}
IsOfFiles (answer.Lacking p) = Unit {0}
IsOfFiles a = ⊥

-- each file that stands is what its name says, within the limits that it was asked for
abbrev pub IsRightFor : Option Asked → Disk → Type 0
IsRightFor None d = Unit {0}
IsRightFor (Some q) d = AreRight q.limits.content d

-- what the answer of a command that was asked this says
abbrev pub Answers : Disk → Option Asked → CheckoutAnswer → Type 0
Answers d None a = ⊥
Answers d (Some q) a = Says d q.limits q.commit q.name a
