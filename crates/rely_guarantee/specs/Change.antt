-- The kinds of change that a step may make.
use Rattle.std.specs.Prelude.{◌≡◌, ℕ, List, Some, None}
use Rattle.ost_types.specs.declared.object.Kind as object
use Rattle.ost_types.specs.Path.{Path, under}
use Rattle.fs_trait.specs.View.{View}
use Rattle.fs_trait.specs.Seen.{Seen, Vacant, shows, MayBe}
use Rattle.repo_layout.specs.Paths.{object_path}
use Rattle.repo_layout.specs.RefFile.{IsSum}
use Rattle.boot_model.specs.declared.item.DepId.{DepId}
use Rattle.rely_guarantee.specs.declared.event.Event.{Event}
use Rattle.rely_guarantee.specs.declared.event.Event.TheVariants.{Pruned, SetDeployments}
use Rattle.rely_guarantee.specs.Books.{Books}
use Rattle.rely_guarantee.specs.State.{Topic, target, before, gives, IsValid, HasList, HasRoots, SystemState}
use Rattle.rely_guarantee.specs.Disks.{path_of, Logical, Says}
use Rattle.rely_guarantee.specs.SystemInvariant.{PublishedBy, Leads}

-- Nothing that the state speaks of changes: at its paths nothing is written but what has no value in the place of what has none.
abbrev pub Still : (Path → Seen → Type 0) → View → Type 0
Still W v = (t : Topic) (s : Seen) → W (path_of t) s → Says t None s × Says t None (shows v.now (path_of t))

-- no path that the state speaks of is written
abbrev pub Away : (Path → Seen → Type 0) → Type 0
Away W = (t : Topic) (s : Seen) → W (path_of t) s → ⊥

-- no object is taken from its path
abbrev pub TakesNone : (Path → Seen → Type 0) → View → Type 0
TakesNone W v = (kind : object.Kind) (sum : List ℕ) → IsSum sum → W (object_path kind sum) Vacant → shows v.now (object_path kind sum) ≡ Vacant

-- A change that takes objects away is published by the holder of Exclusive alone, and one of the list by who works on it.
abbrev pub Dooms : ℕ → Books → Event → Type 0
Dooms lane b (Pruned depth roots held removed) = b.exclusive ≡ Some lane
Dooms lane b (SetDeployments change list) = b.sysroot ≡ Some lane
Dooms lane b e = Unit {0}

-- The event's value, and nothing else, is written at the paths that the state speaks of; the event can be, what it changes shows now
-- what it says that it was, its roots are those of the state that the view shows, and its list comes from this one.
pub record Shows (ids : List DepId) (W : Path → Seen → Type 0) (v : View) (e : Event) : Type 0 where
  pub writes : (t : Topic) (s : Seen) → W (path_of t) s → PublishedBy e t s
  pub valid : IsValid e
  pub was : (t : Topic) → target e ≡ Some t → Says t (before e) (shows v.now (path_of t))
  pub roots : (s : SystemState) → Logical v.now s.refs → s.deployments ≡ ids → HasRoots e s
  pub list : HasList e ids

-- Only the event's value is left at its path, and folders lead there, where there is one.
pub record Final (e : Event) (w : View) : Type 0 where
  pub only : (t : Topic) → target e ≡ Some t → (s : Seen) → MayBe w (path_of t) s → Says t (gives e) s
  pub leads : (t : Topic) (commit : List ℕ) → target e ≡ Some t → gives e ≡ Some commit → (f : Path) (x : List ℕ) → path_of t ≡ under f x → Leads w f
