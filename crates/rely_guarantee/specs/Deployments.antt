-- How a list of deployments comes from the one before it (OSTree manual, "Deployments").
use Rattle.std.specs.Prelude.{◌≡◌, ◌≢◌, ◌⊎◌, ◌<◌, ◌≤◌, ◌++◌, ℕ, List, [], ◌∷◌, length, Contains}
use Rattle.ost_types.specs.Path.{Name}
use Rattle.boot_model.specs.declared.item.DepId.{DepId}
use Rattle.rely_guarantee.specs.declared.event.DeploymentChange.{DeploymentChange}
use Rattle.rely_guarantee.specs.declared.event.DeploymentChange.TheVariants.{Deploy, Undeploy}

-- the most that a list has
abbrev pub deployments_limit : ℕ
deployments_limit = 8

-- A name that none of the list has; its serial is the least such one.
pub record IsFresh (old : List DepId) (id : DepId) : Type 0 where
  pub free : ¬ (Contains old id)
  pub least : (serial : ℕ) → serial < id.serial → Contains old (record id { serial = serial })

-- Behind a new deployment of a stateroot one stays that is of another, that is in use, or before which there is none of its stateroot.
abbrev pub Stays : List DepId → Name → List DepId → DepId → Type 0
Stays used os before id = (id.os ≢ os) ⊎ Contains used id ⊎ ((other : DepId) → Contains before other → other.os ≢ os)

-- those of a part of the list that stay, where these are before it
pub data Kept (used : List DepId) (os : Name) : List DepId → List DepId → List DepId → Type 0 where
  none : (before : List DepId) → Kept used os before [] []
  stays : (before : List DepId) (id : DepId) (rest kept : List DepId) → Stays used os before id → Kept used os (before ++ id ∷ []) rest kept → Kept used os before (id ∷ rest) (id ∷ kept)
  goes : (before : List DepId) (id : DepId) (rest kept : List DepId) → ¬ (Stays used os before id) → Kept used os (before ++ id ∷ []) rest kept → Kept used os before (id ∷ rest) kept

-- A new deployment is in front, and behind it is what stays, in its order.
pub record IsDeployed (used old list : List DepId) : Type 0 where
  pub new : DepId
  pub kept : List DepId
  pub is : list ≡ new ∷ kept
  pub fresh : IsFresh old new
  pub stay : Kept used new.os [] old kept

-- The one at this place is gone.
pub record IsUndeployed (place : ℕ) (old list : List DepId) : Type 0 where
  pub before : List DepId
  pub gone : DepId
  pub after : List DepId
  pub was : old ≡ before ++ gone ∷ after
  pub at : place ≡ length before
  pub is : list ≡ before ++ after

abbrev pub ChangesList : DeploymentChange → List DepId → List DepId → Type 0
ChangesList (Deploy used) old list = IsDeployed used.items old list
ChangesList (Undeploy place) old list = IsUndeployed place old list
