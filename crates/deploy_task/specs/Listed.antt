-- A list that boots, by the names of its members.
use Rattle.std.specs.Prelude.{◌≡◌, ◌≢◌, ◌≤◌, ◌<◌, ℕ, List, [], map, Contains}
use Rattle.std.specs.List.{filter_map, slice_get}
use Rattle.ost_types.specs.Path.{Name}
use Rattle.boot_model.specs.declared.item.DepId.{DepId}
use Rattle.boot_model.specs.declared.item.BootItem.{BootItem}
use Rattle.boot_model.specs.Items.{IsAt}
use Rattle.deploy_list.specs.declared.dep.Dep.{Dep}
use Rattle.deploy_list.specs.Lists.{IsLeastFree, places_kept}

abbrev pub ids_in : List BootItem → List DepId
ids_in items = map (λ (item : BootItem). item.id) items

-- a member of which nothing but the name is known: how a new one is numbered, and which stay, goes by the names alone
abbrev pub dep_of : BootItem → Dep
dep_of item = record { id = item.id; kargs = []; defaults = []; etc = [] }

abbrev pub deps_in : List BootItem → List Dep
deps_in items = map dep_of items

-- The name of a new deployment of this stateroot and commit, and the places of those that stay behind it.
pub record IsNumbered (items : List BootItem) (used : List DepId) (os : Name) (commit : List ℕ) (id : DepId) (kept : List ℕ) : Type 0 where
  pub stateroot : id.os ≡ os
  pub of_commit : id.commit ≡ commit
  pub serial : IsLeastFree (deps_in items) os commit id.serial
  pub small : id.serial ≤ 8
  pub stay : kept ≡ places_kept (deps_in items) os used

-- the members at these places
abbrev pub items_at : List BootItem → List ℕ → List BootItem
items_at items places = filter_map (slice_get items) places

-- none of the list is of the stateroot; or this is the first one that is, from which the configuration is taken over
abbrev pub NoneOf : List BootItem → Name → Type 0
NoneOf items os = (item : BootItem) → Contains items item → item.id.os ≢ os

pub record IsFirstOf (items : List BootItem) (os : Name) (id : DepId) : Type 0 where
  pub place : ℕ
  pub item : BootItem
  pub at : IsAt items place item
  pub is : id ≡ item.id
  pub stateroot : item.id.os ≡ os
  pub first : (i : ℕ) (other : BootItem) → IsAt items i other → i < place → other.id.os ≢ os
