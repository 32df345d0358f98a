-- How far the objects of a planned sweep are gone.
use Rattle.std.specs.Prelude.{◌≡◌, ◌⊎◌, ℕ, List, Contains, take, drop}
use Rattle.ost_types.specs.declared.object.ObjName.{ObjName}
use Rattle.fs_trait.specs.View.{Disk}
use Rattle.fs_trait.specs.Seen.{Vacant, shows}
use Rattle.repo_layout.specs.RefFile.{IsSum}
use Rattle.repo_model.specs.Objects.{Stores, path_of}
use Rattle.reach.specs.Reach.{IsIn}
use Rattle.store_check.specs.Listing.{IsThere}

-- The disk has all objects that it had when the sweep was planned, but for the first so many of those that go; the others of these are
-- still there.
pub record IsSwept (planned : Disk) (removed : List ObjName) (gone : ℕ) (d : Disk) : Type 0 where
  pub stays : (o : ObjName) (b : List ℕ) → Stores d o b → Stores planned o b
  pub either : (o : ObjName) (b : List ℕ) → Stores planned o b → Stores d o b ⊎ Contains (take gone removed) o
  pub away : (o : ObjName) → Contains (take gone removed) o → ¬ (IsThere d o)
  pub rest : (o : ObjName) → Contains (drop gone removed) o → IsThere d o

-- From one disk to another: the object's path is vacant, and that of each other object shows what it showed.
pub record Unlinks (o : ObjName) (d e : Disk) : Type 0 where
  pub vacant : shows e (path_of o) ≡ Vacant
  pub apart : (x : ObjName) → IsSum x.csum → (shows e (path_of x) ≡ shows d (path_of x)) ⊎ (x ≡ o)

-- each object that stands has its name
abbrev pub AreNamed : Disk → Type 0
AreNamed d = (o : ObjName) → IsThere d o → IsIn (Stores d) o
