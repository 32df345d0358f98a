-- The first step.
use Rattle.std.specs.Prelude.{◌≡◌, ℕ, List}
use Rattle.fs_trait.specs.View.{Disk}
use Rattle.ref_command.specs.declared.look_up.Found.TheVariants.{Missing, Partial, Whole}
use Rattle.ref_command.specs.Found.{IsFound}
use Rattle.checkout_command.specs.declared.answer.CheckoutAnswer.{CheckoutAnswer}
use Rattle.checkout_command.specs.declared.answer.CheckoutAnswer.TheVariants as answer
use Rattle.checkout_command.specs.declared.command.CheckoutCommand.{CheckoutCommand}
use Rattle.checkout_command.specs.declared.command.CheckoutCommand.TheVariants.{Read, Ended}
use Rattle.checkout_command.specs.declared.request.Request.{Request}
use Rattle.checkout_command.specs.Fits.{Fits}
use Rattle.checkout_command.specs.ReadSteps.{reading}

-- the commit isn't there, or has a mark
abbrev pub SaysStopped : Disk → List ℕ → CheckoutAnswer → Type 0
SaysStopped d commit (answer.NoCommit c) = (c ≡ commit) × IsFound d commit Missing
SaysStopped d commit (answer.Partial c) = (c ≡ commit) × IsFound d commit Partial
SaysStopped d commit a = ⊥

abbrev pub IsLookStepped : Request → CheckoutCommand → Type 0
IsLookStepped r (Ended a) = Fits r.commit r.name a
IsLookStepped r (Read s) = s ≡ reading r
IsLookStepped r t = ⊥

-- a commit that isn't whole is answered; else it is read
abbrev pub LookTells : Disk → Request → CheckoutCommand → Type 0
LookTells d r (Ended a) = SaysStopped d r.commit a
LookTells d r (Read s) = (s ≡ reading r) × IsFound d r.commit Whole
LookTells d r t = ⊥
