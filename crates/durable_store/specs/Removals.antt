-- What is so of the store while objects are removed from it, and what a step that removes may write.
use Rattle.std.specs.Prelude.{◌≡◌, ◌≢◌, ◌⊎◌, ℕ, List, [], ◌∷◌, Contains}
use Rattle.ost_types.specs.declared.object.Kind.TheVariants.{Commit}
use Rattle.ost_types.specs.declared.object.ObjName.{ObjName}
use Rattle.ost_types.specs.Path.{Path}
use Rattle.fs_trait.specs.View.{View}
use Rattle.fs_trait.specs.Seen.{Seen, Vacant, shows, MayBe}
use Rattle.repo_layout.specs.Paths.{mark_path}
use Rattle.repo_layout.specs.RefFile.{IsSum}
use Rattle.repo_model.specs.Objects.{Stores, path_of}
use Rattle.repo_model.specs.Trees.{name_of}
use Rattle.reach.specs.Reach.{ObjNames, Refers}
use Rattle.rely_guarantee.specs.Books.{Books}
use Rattle.rely_guarantee.specs.Removing.{IsRoot}
use Rattle.durable_store.specs.Standing.{IsNeverThere}

-- the names that are kept where these are removed: all others, whether or not their objects stand
abbrev pub Except : List ObjName → ObjNames
Except doomed o = ¬ (Contains doomed o)

-- Of names that are kept: among them is each that no act for this lane takes, and what an object of the store names that is kept.
pub record AreKept (keep : ObjNames) (b : Books) (v : View) (lane : ℕ) : Type 0 where
  pub roots : (o : ObjName) → IsRoot b v lane o → keep o
  pub closed : (o next : ObjName) → keep o → Refers (Stores v.now) o next → keep next

-- Each commit that a crash may leave is kept, and each object that is kept is after a crash as it is now.
pub record IsSettled (keep : ObjNames) (v : View) : Type 0 where
  pub commits : (commit : List ℕ) → IsSum commit → (s : Seen) → MayBe v (path_of (name_of Commit commit)) s → s ≢ Vacant → keep (name_of Commit commit)
  pub steady : (o : ObjName) → IsSum o.csum → keep o → (s : Seen) → MayBe v (path_of o) s → s ≡ shows v.now (path_of o)

-- nothing is written but at this path, which is vacant from then on
abbrev pub Vacates : Path → (Path → Seen → Type 0) → Type 0
Vacates at W = (p : Path) (s : Seen) → W p s → (p ≡ at) × (s ≡ Vacant)

-- An object goes that isn't kept: a commit at any time, another only where a crash brings back no commit that names it.
pub record TakesObject (keep : ObjNames) (v : View) (W : Path → Seen → Type 0) : Type 0 where
  pub name : ObjName
  pub sum : IsSum name.csum
  pub gone : ¬ (keep name)
  pub settled : name.kind ≢ Commit → IsSettled keep v
  pub vacates : Vacates (path_of name) W

-- The mark goes of a commit that no crash leaves.
pub record TakesMark (v : View) (W : Path → Seen → Type 0) : Type 0 where
  pub commit : List ℕ
  pub sum : IsSum commit
  pub never : IsNeverThere v commit
  pub vacates : Vacates (mark_path commit) W

-- One of them goes, or nothing is written, as in a sync.
abbrev pub IsRemoval : ObjNames → View → (Path → Seen → Type 0) → Type 0
IsRemoval keep v W = TakesObject keep v W ⊎ TakesMark v W ⊎ ((p : Path) (s : Seen) → W p s → ⊥)

-- the names are different
abbrev pub AreDifferent : List ObjName → Type 0
AreDifferent [] = Unit {0}
AreDifferent (x ∷ xs) = ¬ (Contains xs x) × AreDifferent xs
