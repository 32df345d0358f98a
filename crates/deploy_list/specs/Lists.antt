-- What stands in a list of deployments.
use Rattle.std.specs.Prelude.{◌≡◌, ◌<◌, ◌==◌, ◌&&◌, ◌||◌, not, ℕ, Bool, true, false, List, length, take, filter, Option, Some, None}
use Rattle.std.specs.List.{list_any, range_with_len, slice_get}
use Rattle.ost_types.specs.Path.{Name, same_name}
use Rattle.boot_model.specs.declared.item.DepId.{DepId}
use Rattle.deploy_list.specs.declared.dep.Dep.{Dep}

abbrev pub is_of : Name → Dep → Bool
is_of os dep = same_name dep.id.os os

-- a deployment of this stateroot, commit and serial
abbrev pub is_id : Name → List ℕ → ℕ → DepId → Bool
is_id os commit serial id = same_name id.os os && same_name id.commit commit && (id.serial == serial)

abbrev pub has_serial : List Dep → Name → List ℕ → ℕ → Bool
has_serial list os commit serial = list_any (λ dep. is_id os commit serial dep.id) list

-- the least serial that no deployment of this stateroot and commit has
pub record IsLeastFree (list : List Dep) (os : Name) (commit : List ℕ) (serial : ℕ) : Type 0 where
  pub free : has_serial list os commit serial ≡ false
  pub least : (other : ℕ) → other < serial → has_serial list os commit other ≡ true

abbrev pub is_used : List DepId → DepId → Bool
is_used used id = list_any (is_id id.os id.commit id.serial) used

-- What stays behind a new deployment of a stateroot: what is of another stateroot, what is in use, and the first of this stateroot, from
-- which the new one takes over its changes.
abbrev pub stays : List Dep → Name → List DepId → ℕ → Dep → Bool
stays list os used place dep = not (is_of os dep) || is_used used dep.id || not (list_any (is_of os) (take place list))

abbrev pub stays_if : List Dep → Name → List DepId → ℕ → Option Dep → Bool
stays_if list os used place None = false
stays_if list os used place (Some dep) = stays list os used place dep

abbrev pub stays_at : List Dep → Name → List DepId → ℕ → Bool
stays_at list os used place = stays_if list os used place (slice_get list place)

-- their places in the list, in its order
abbrev pub places_kept : List Dep → Name → List DepId → List ℕ
places_kept list os used = filter (stays_at list os used) (range_with_len 0 (length list))
