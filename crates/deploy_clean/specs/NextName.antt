-- The next name of a stateroot in hand.
use Rattle.std.specs.Prelude.{◌≡◌, List, [], ◌∷◌, drop}
use Rattle.ost_types.specs.Path.{Name, Path, under}
use Rattle.boot_model.specs.declared.item.DepId.{DepId}
use Rattle.deploy_clean.specs.declared.stateroot.NextName.{NextName}
use Rattle.deploy_clean.specs.declared.stateroot.NextName.TheVariants.{Nothing, Other, Unlisted}
use Rattle.deploy_clean.specs.Opened.{Opened}
use Rattle.deploy_clean.specs.Unlisted.{IsUnlistedName, deployments}

abbrev pub IsFirst : List Name → Name → Type 0
IsFirst names name = names ≡ name ∷ drop 1 names

-- It is that of a deployment that isn't listed, or of its origin file, and this is its path.
pub record IsUnlistedPath (listed : List DepId) (o : Opened) (p : Path) : Type 0 where
  pub name : Name
  pub first : IsFirst o.names name
  pub unlisted : IsUnlistedName listed o.os name
  pub at : p ≡ under (deployments o.os) name

-- what there is to do about it
abbrev pub IsNextName : List DepId → Opened → NextName → Type 0
IsNextName listed o Nothing = o.names ≡ []
IsNextName listed o Other = (name : Name) × IsFirst o.names name × (¬ (IsUnlistedName listed o.os name))
IsNextName listed o (Unlisted p) = IsUnlistedPath listed o p
