-- What is so for a removal of deployments while others act.
use Rattle.std.specs.Prelude.{◌≡◌, ℕ, List, Some}
use Rattle.fs_trait.specs.View.{View}
use Rattle.boot_model.specs.declared.item.DepId.{DepId}
use Rattle.deploy_clean.specs.Cleaning.{Cleaning}
use Rattle.deploy_clean.specs.Steps.{Needs}
use Rattle.durable_list.specs.Standing.{HasLoader}
use Rattle.durable_deployments.specs.Bounds.{AreBounded}
use Rattle.rely_guarantee.specs.Books.{Books, listed_in}
use Rattle.clean_command.specs.declared.command.CleanCommand.{CleanCommand}
use Rattle.clean_command.specs.declared.phase.Phase.{Phase}
use Rattle.clean_command.specs.declared.phase.Phase.TheVariants as phase

-- The lane works on the list of deployments, and these are those of the one that stays; what is to go can be removed.
pub record IsLooking (ids : List DepId) (lane : ℕ) (v : View) (b : Books) : Type 0 where
  pub sysroot : b.sysroot ≡ Some lane
  pub listed : listed_in b ≡ ids
  pub bounded : AreBounded v

-- The same of a removal, and the list is selected.
pub record IsCleaning (c : Cleaning) (lane : ℕ) (v : View) (b : Books) : Type 0 where
  pub sysroot : b.sysroot ≡ Some lane
  pub listed : listed_in b ≡ c.listed
  pub needs : Needs c v
  pub bounded : AreBounded v
  pub selected : HasLoader v.now

abbrev pub KnownIn : Phase → ℕ → View → Books → Type 0
KnownIn phase.Waiting lane v b = Unit {0}
KnownIn phase.Unlearned lane v b = b.sysroot ≡ Some lane
KnownIn (phase.Looking l) lane v b = IsLooking l.items lane v b
KnownIn (phase.Cleaning c) lane v b = IsCleaning c lane v b
KnownIn phase.Over lane v b = ⊥

pub record Facts (lane : ℕ) (t : CleanCommand) (v : View) (b : Books) : Type 0 where
  pub mine : t.lane ≡ lane
  pub known : KnownIn t.phase lane v b

abbrev pub clean_facts : ℕ → CleanCommand → View → Books → Type 0
clean_facts lane t v b = Facts lane t v b
