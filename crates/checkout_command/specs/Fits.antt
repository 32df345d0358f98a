-- Which answers a command may give, whatever the disk is.
use Rattle.std.specs.Prelude.{◌≡◌, ℕ, List, Option, Some, None}
use Rattle.ost_types.specs.Path.{Name}
use Rattle.repo_layout.specs.BootPaths.{checkout_path}
use Rattle.checkout_command.specs.declared.answer.CheckoutAnswer.{CheckoutAnswer}
use Rattle.checkout_command.specs.declared.answer.CheckoutAnswer.TheVariants as answer
use Rattle.checkout_command.specs.Asked.{Asked}

-- one about the commit and the name that were asked for
abbrev pub Fits : List ℕ → Name → CheckoutAnswer → Type 0
Fits commit name answer.Done = Unit {0}
Fits commit name (answer.NoCommit named) = named ≡ commit
Fits commit name (answer.Partial named) = named ≡ commit
Fits commit name (answer.DestExists p) = p ≡ checkout_path name
Fits commit name (answer.Lacking p) = Unit {0}

-- after its end nothing is asked of it
abbrev pub IsFitting : Option Asked → CheckoutAnswer → Type 0
IsFitting None said = Unit {0}
IsFitting (Some q) said = Fits q.commit q.name said
