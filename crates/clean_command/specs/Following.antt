-- What is so where one phase comes behind another, by cases.
use Rattle.std.specs.Global.{Vec}
use Rattle.std.proofs.Common.{◌≡◌, Ok}
use Rattle.fs_trait.specs.declared.task.StepResult.TheVariants as turn
use Rattle.boot_model.specs.declared.item.DepId.{DepId}
use Rattle.deploy_clean.specs.Cleaning.{Cleaning, IsStepped, begun}
use Rattle.clean_command.specs.declared.phase.Phase.{Phase}
use Rattle.clean_command.specs.declared.phase.Phase.TheVariants as phase
use Rattle.clean_command.specs.Commands.{Follows}

module _ (R : Phase → Phase → Type 0)
    (waits : R phase.Waiting phase.Unlearned)
    (looks : (l : Vec DepId) (n : Cleaning) → n ≡ begun l.items → R (phase.Looking l) (phase.Cleaning n))
    (cleans : (c n : Cleaning) → IsStepped c (Ok turn.More) n → R (phase.Cleaning c) (phase.Cleaning n)) where
  pub follow_cases : (p n : Phase) → Follows p n → R p n
  follow_cases phase.Waiting phase.Unlearned follows = waits
  follow_cases (phase.Looking l) (phase.Cleaning n) follows = looks l n follows
  follow_cases (phase.Cleaning c) (phase.Cleaning n) follows = cleans c n follows
  follow_cases phase.Waiting phase.Waiting follows = absurd follows
  follow_cases phase.Waiting (phase.Looking m) follows = absurd follows
  follow_cases phase.Waiting (phase.Cleaning n) follows = absurd follows
  follow_cases phase.Waiting phase.Over follows = absurd follows
  follow_cases phase.Unlearned phase.Waiting follows = absurd follows
  follow_cases phase.Unlearned phase.Unlearned follows = absurd follows
  follow_cases phase.Unlearned (phase.Looking m) follows = absurd follows
  follow_cases phase.Unlearned (phase.Cleaning n) follows = absurd follows
  follow_cases phase.Unlearned phase.Over follows = absurd follows
  follow_cases (phase.Looking l) phase.Waiting follows = absurd follows
  follow_cases (phase.Looking l) phase.Unlearned follows = absurd follows
  follow_cases (phase.Looking l) (phase.Looking m) follows = absurd follows
  follow_cases (phase.Looking l) phase.Over follows = absurd follows
  follow_cases (phase.Cleaning c) phase.Waiting follows = absurd follows
  follow_cases (phase.Cleaning c) phase.Unlearned follows = absurd follows
  follow_cases (phase.Cleaning c) (phase.Looking m) follows = absurd follows
  follow_cases (phase.Cleaning c) phase.Over follows = absurd follows
  follow_cases phase.Over phase.Waiting follows = absurd follows
  follow_cases phase.Over phase.Unlearned follows = absurd follows
  follow_cases phase.Over (phase.Looking m) follows = absurd follows
  follow_cases phase.Over (phase.Cleaning n) follows = absurd follows
  follow_cases phase.Over phase.Over follows = absurd follows
